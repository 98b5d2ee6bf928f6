-- m 3, k 2, w 1, D 1, t 2, one run.
--
-- sample         a key, an exchange of it, and what follows from them
-- computed       the definitions compute it
use Rattle.std.specs.Prelude.{refl}
use Rattle.test_standin.specs.StandIn.{hex}
use Rattle.test_standin.specs.Definitions.{definitions}
use Rattle.test_exchange.specs.Definitions.{Sample, Computed}

abbrev sample : Sample
sample = record {
  p = record { m = 3; k = 2; w = 1; axes = 1; t = 2 };
  runs = 1;
  key = record { matrix = hex 2 0x01cf; y = hex 1 0x25 };
  x_a = hex 2 0x2500;
  salt = hex 32 0x32c693d194f5d4bdd75071a12588cf922b1824d0e330ef901023abf13c9e322f;
  root = hex 16 0x61dfe657428304cc3f082f8d977b2e38;
  message2 = hex 16 0x9607b8167a72cc7ff4c35ceae6f5a82d;
  leaves = hex 1 0x00;
  lasts = hex 1 0x01;
  x = hex 3 0x250000;
  S = hex 3 0x257575;
  Q = hex 2 0x0101;
  P = hex 1 0x75;
  F = hex 4 0x06070001;
  message1 = hex 64 0x32c693d194f5d4bdd75071a12588cf922b1824d0e330ef901023abf13c9e322f825d16f7d5c5b9cc3abf95fa123d0f9dc6a5367bfe498de398450bea6df643e9;
  message3 = hex 32 0xae9ec82bc7710b3ebc41752775e3ae48234c77d81d55ba088d9d7b8462258e87;
  message5 = hex 76 0x486b716c9c7b3e019b396102f4b3ee6ff5203c1348d104f22e791111d10f162ccdeafe33467bef95c4b89152bcc77313bcc95e15d66e27e7fb38891226ef852dd0bfde215ed994bc8d71c0ed;
  last5 = hex 64 0x5b340248d4bb76a8bcd1163e4a8e1d80862c569f6e3c7dd506ddde9d976b5b3873741c3e38b8e21f1a534eb6458c9f513783dd3a5a12dc3081c50bfdfc551b95;
}

computed : Computed sample
unfolding definitions
computed = record {
  x-is = refl;
  S-is = refl;
  Q-is = refl;
  P-is = refl;
  F-is = refl;
  message1-is = refl;
  message3-is = refl;
  message5-is = refl;
  last5-is = refl;
  last-judged = refl;
}
