-- m 5, k 3, w 2, D 2, t 1, one run; x has one nonzero entry, so E is filled.
--
-- sample         a key, an exchange of it, and what follows from them
-- computed       the definitions compute it
use Rattle.std.specs.Prelude.{refl}
use Rattle.test_standin.specs.StandIn.{hex}
use Rattle.test_standin.specs.Definitions.{definitions}
use Rattle.test_exchange.specs.Definitions.{Sample, Computed}

abbrev sample : Sample
sample = record {
  p = record { m = 5; k = 3; w = 2; axes = 2; t = 1 };
  runs = 1;
  key = record { matrix = hex 6 0x2f6429b38683; y = hex 2 0x56d6 };
  x_a = hex 3 0x480000;
  salt = hex 32 0x12d452d5c11db196e4528e202d8239550f24a9d33cd147a1be6a87b7505ae1a0;
  root = hex 16 0x9ed321d7c7a60d81fe2b9188bb5384d0;
  message2 = hex 8 0xff6c357761aef319;
  leaves = hex 1 0x01;
  lasts = hex 1 0x03;
  x = hex 5 0x4800000000;
  S = hex 5 0x48ef4a00a5;
  Q = hex 3 0x020301;
  P = hex 2 0x51a5;
  F = hex 6 0x786a01130101;
  message1 = hex 64 0x12d452d5c11db196e4528e202d8239550f24a9d33cd147a1be6a87b7505ae1a0883179752f911a7a8706d765aa34e122510526d9ee2f1f6723e06b5f28cead10;
  message3 = hex 32 0xe815e30a6662919a0080c5afc5f9a1724b14f5cdf421309ac1dcf7fb8ac21996;
  message5 = hex 83 0x21d66515239e7322664c8e149e08e3d505c4c286d1e6832fa9049407d9ec3b984c05df6e0fcc007f7906d2ba9f42936fd63ca2eb765e9084a6d9e970d4654616d2ed5e957813f5e00a2db03af635ae1c55b345;
  last5 = hex 72 0x2bba46dad04b4ace39a27318fcf79b7bce397388eee0c6cfb10c4089290a87fcb1d4de85bf917d85086f1ba9a63591f564aa1724ec9bc7c2ea5d14fc01053d145907f2b767af2ace;
}

computed : Computed sample
unfolding definitions
computed = record {
  x-is = refl;
  S-is = refl;
  Q-is = refl;
  P-is = refl;
  F-is = refl;
  message1-is = refl;
  message3-is = refl;
  message5-is = refl;
  last5-is = refl;
  last-judged = refl;
}
