-- m 3, k 1, w 2, D 1, t 1, one run.
--
-- sample         a key, an exchange of it, and what follows from them
-- computed       the definitions compute it
-- ..-judged      verdicts: of the exchange that hides its leaves, and with parts of message 5 changed
use Rattle.std.specs.Prelude.{◌≡◌, refl}
use Rattle.test_standin.specs.StandIn.{hex}
use Rattle.test_standin.specs.Definitions.{definitions}
use Rattle.test_exchange.specs.Definitions.{Sample, judged, Computed}

abbrev sample : Sample
sample = record {
  p = record { m = 3; k = 1; w = 2; axes = 1; t = 1 };
  runs = 1;
  key = record { matrix = hex 2 0xb980; y = hex 2 0x5336 };
  x_a = hex 1 0x51;
  salt = hex 32 0xa83b63f1ee08469ccdac9ff735ab278a84ba6d1c170cf5c1183c860763b28138;
  root = hex 16 0x5e96737a74e5f8908fafafcc5252147f;
  message2 = hex 8 0xa575a89661fec08a;
  leaves = hex 1 0x00;
  lasts = hex 1 0x01;
  x = hex 3 0x510023;
  S = hex 3 0x72dcff;
  Q = hex 3 0x030201;
  P = hex 2 0x39ff;
  F = hex 4 0x06070001;
  message1 = hex 64 0xa83b63f1ee08469ccdac9ff735ab278a84ba6d1c170cf5c1183c860763b281388fcd332a81b6e0beb30dd201140c892377e8ec5d009d2de87a6da6f7cbd0a734;
  message3 = hex 32 0x6a388b5fc8be0ccdb70dd41c1ac843b21e8b123f1663e13eae534749cb1e0ab7;
  message5 = hex 65 0x0d05f173c95849c86718d0ad1adef81a9f031d1e4c1d2e2f64845189303e97185896a2e4cf8071de3b93439f8ea750d2675b57c9f18145416515184f230159181c;
  last5 = hex 56 0xd3e0829a1781d64b23b0039928b915d3688596cf95a407d42305020fb9a1abef432bf1b4c5c14bf3ce4aabd1615e1ee59e3c72e1807ac3b3;
}

computed : Computed sample
unfolding definitions
computed = record {
  x-is = refl;
  S-is = refl;
  Q-is = refl;
  P-is = refl;
  F-is = refl;
  message1-is = refl;
  message3-is = refl;
  message5-is = refl;
  last5-is = refl;
  last-judged = refl;
}

hidden-judged :
    judged sample (hex 1 0x00) (hex 65 0x0d05f173c95849c86718d0ad1adef81a9f031d1e4c1d2e2f64845189303e97185896a2e4cf8071de3b93439f8ea750d2675b57c9f18145416515184f230159181c)
    ≡ 0
unfolding definitions
hidden-judged = refl

sibling_changed-judged :
    judged sample (hex 1 0x00) (hex 65 0x0c05f173c95849c86718d0ad1adef81a9f031d1e4c1d2e2f64845189303e97185896a2e4cf8071de3b93439f8ea750d2675b57c9f18145416515184f230159181c)
    ≡ 5
unfolding definitions
sibling_changed-judged = refl

commitment_changed-judged :
    judged sample (hex 1 0x00) (hex 65 0x0d05f173c95849c86718d0ad1adef81a9e031d1e4c1d2e2f64845189303e97185896a2e4cf8071de3b93439f8ea750d2675b57c9f18145416515184f230159181c)
    ≡ 5
unfolding definitions
commitment_changed-judged = refl

aux_changed-judged :
    judged sample (hex 1 0x00) (hex 65 0x0d05f173c95849c86718d0ad1adef81a9f031d1e4c1d2e2f64845189303e97185896a2e4cf8071de3b93439f8ea750d2675b57c9f18145416415184f230159181c)
    ≡ 5
unfolding definitions
aux_changed-judged = refl

alpha_changed-judged :
    judged sample (hex 1 0x00) (hex 65 0x0d05f173c95849c86718d0ad1adef81a9f031d1e4c1d2e2f64845189303e97185896a2e4cf8071de3b93439f8ea750d2665b57c9f18145416515184f230159181c)
    ≡ 7
unfolding definitions
alpha_changed-judged = refl
