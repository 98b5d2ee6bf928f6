-- The extractor at D 1.
--
-- p, key        parameters, matrix and y
-- .._a, .._b    a run of two exchanges, accepted under the hash named in the fact
-- ..-found      what the extractor finds in them: layer and number; or the axis, then the output
use Rattle.std.specs.Prelude.{◌≡◌, refl, [], ◌∷◌}
use Rattle.parameters.specs.declared.Parameters.{Parameters}
use Rattle.exchange.specs.Values.{Key}
use Rattle.test_standin.specs.StandIn.{hex, weak}
use Rattle.exchange.specs.Opening.{Exchange}
use Rattle.exchange.specs.Extractor.{extract}
use Rattle.test_standin.specs.Definitions.{definitions, finding_lists}

abbrev p : Parameters
p = record { m = 2; k = 1; w = 1; axes = 1; t = 1 }

abbrev key : Key
key = record { matrix = hex 1 0x5f; y = hex 1 0xad }

abbrev commitments_a : Exchange
commitments_a = record {
  prefix = hex 33 0xf9bc3829513be4867a5491720bd00dfdef5ad14ea03d5d5d133497e208edfad100;
  h = hex 32 0x1f5f4124a2ee39426477b9c6c1cc3270d8c3a04e8354bfe283ba5369a8b7260b;
  message2 = hex 8 0x9eb9e15e52c90522;
  message3 = hex 32 0xfe2e9b70fdd9103dc83b3c50a384b45a40fd0f6ae9851cce81c6686e5ae0e17b;
  leaf = 0;
  message5 = hex 63 0x4ab53bb651b76253c09cb430fed51fdb7a2435c71432e1be3245ae0792643192acf2729a6c8c3f36ba069916020c6faf4ba3ee8a4c8690956c008853805682;
}

abbrev commitments_b : Exchange
commitments_b = record {
  prefix = hex 33 0xf9bc3829513be4867a5491720bd00dfdef5ad14ea03d5d5d133497e208edfad100;
  h = hex 32 0x1f5f4124a2ee39426477b9c6c1cc3270d8c3a04e8354bfe283ba5369a8b7260b;
  message2 = hex 8 0x9eb9e15e52c90522;
  message3 = hex 32 0xfe2e9b70fdd9103dc83b3c50a384b45a40fd0f6ae9851cce81c6686e5ae0e17b;
  leaf = 1;
  message5 = hex 56 0x93299adb6a55c080809204be4a93dcca9cc2a9e9e8ecde403e4eff4a5acb9a1391e912c198c2ceff58db23274e298c8210f0ad93daa70b07;
}

commitments-found :
    finding_lists (extract (weak 5) p key commitments_a commitments_b)
    ≡ (5 ∷ 0 ∷ []) ∷ []
unfolding definitions
commitments-found = refl
