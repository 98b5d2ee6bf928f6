-- The extractor at D 2.
--
-- p, key        parameters, matrix and y
-- .._a, .._b    a run of two exchanges, accepted under the hash named in the fact
-- ..-found      what the extractor finds in them: layer and number; or the axis, then the output
use Rattle.std.specs.Prelude.{◌≡◌, refl, [], ◌∷◌}
use Rattle.parameters.specs.declared.Parameters.{Parameters}
use Rattle.exchange.specs.Values.{Key}
use Rattle.test_standin.specs.StandIn.{hex, stand_in, weak, weak_leaves}
use Rattle.exchange.specs.Opening.{Exchange}
use Rattle.exchange.specs.Extractor.{extract}
use Rattle.test_standin.specs.Definitions.{definitions, finding_lists}

abbrev p : Parameters
p = record { m = 2; k = 1; w = 1; axes = 2; t = 1 }

abbrev key : Key
key = record { matrix = hex 1 0x47; y = hex 1 0xaa }

abbrev states_a : Exchange
states_a = record {
  prefix = hex 33 0x3cfb0d17566bfb77d8d9cb20efe303d621dfb697f57fce8fe54eef4ccb2202df00;
  h = hex 32 0xffe2cbde48be070e6d0c8a516213088ecc66427e5659be0e427d276e94f211b2;
  message2 = hex 8 0x45c544212be863a7;
  message3 = hex 32 0x8eeac94e6046160e6a4a1bd68a2b938cb809e3ba1b4cff670ead43c6989e4a8f;
  leaf = 1;
  message5 = hex 79 0x988803272e0a62e60465cefe16b0c47d205e86747a94319ad41b9989a12406bc10eb1c354f3590a7b4f04f1c449d6b35ad3d6bd0df519454a9ebf045f8d9499372d09e5b11339562d341a9b9129b74;
}

abbrev states_b : Exchange
states_b = record {
  prefix = hex 33 0x3cfb0d17566bfb77d8d9cb20efe303d621dfb697f57fce8fe54eef4ccb2202df00;
  h = hex 32 0xffe2cbde48be070e6d0c8a516213088ecc66427e5659be0e427d276e94f211b2;
  message2 = hex 8 0x45c544212be863a7;
  message3 = hex 32 0x8eeac94e6046160e6a4a1bd68a2b938cb809e3ba1b4cff670ead43c6989e4a8f;
  leaf = 3;
  message5 = hex 72 0x5f7a229215cf7da61bb2c26ccb344734ad3abda0739932ae27fdc92e88e019175e43fbfec38ff77651714592174443c1b42a0722cce015a609dcf30b301c25ecf02899fea1c541d1;
}

states-found :
    finding_lists (extract stand_in p key states_a states_b)
    ≡ (2 ∷ []) ∷ hex 135 0x8e29d2317c658aca7c25c8d192c6e4e535d919ec6d757b322d7218dfcd6557e2a9906ce91826b983c922705cb9c656dee41f07f47a99f0e5d566d1d357cd2b0eb2d4fc42f5b4bb57f7ff35cc7953a2b9555d2f30316c54e9b73d3de21a6f48ef704444efa0e723e597a929aae55a9e22a7ca37b8c4f4e4301052c3fb842e7b19d341a9b9129b74 ∷ []
unfolding definitions
states-found = refl

abbrev axes_a : Exchange
axes_a = record {
  prefix = hex 33 0x3cfb0d17566bfb77d8d9cb20efe303d621dfb697f57fce8fe54eef4ccb2202df00;
  h = hex 32 0xffe2cbde48be070e6d0c8a516213088ecc66427e5659be0e427d276e94f211b2;
  message2 = hex 8 0x45c544212be863a7;
  message3 = hex 32 0x3506c3eb2a8e91618b3cbaa7a52148d5affd2035c48c9a2596a39e78e1b04d6b;
  leaf = 1;
  message5 = hex 79 0x988803272e0a62e60465cefe16b0c47d205e86747a94319ad41b9989a12406bc10eb1c354f3590a7b4f04f1c449d6b35ad3d6bd0df519454a9ebf045f8d9499373d09e5b11339562d341a9b9129b74;
}

abbrev axes_b : Exchange
axes_b = record {
  prefix = hex 33 0x3cfb0d17566bfb77d8d9cb20efe303d621dfb697f57fce8fe54eef4ccb2202df00;
  h = hex 32 0xffe2cbde48be070e6d0c8a516213088ecc66427e5659be0e427d276e94f211b2;
  message2 = hex 8 0x45c544212be863a7;
  message3 = hex 32 0x3506c3eb2a8e91618b3cbaa7a52148d5affd2035c48c9a2596a39e78e1b04d6b;
  leaf = 3;
  message5 = hex 72 0x5f7a229215cf7da61bb2c26ccb344734ad3abda0739932ae27fdc92e88e019175e43fbfec38ff77651714592174443c1b42a0722cce015a609dcf30b301c25ecf12899fea1c541d1;
}

axes-found :
    finding_lists (extract (weak 6) p key axes_a axes_b)
    ≡ (6 ∷ 2 ∷ []) ∷ []
unfolding definitions
axes-found = refl

abbrev leaves_a : Exchange
leaves_a = record {
  prefix = hex 33 0x3cfb0d17566bfb77d8d9cb20efe303d621dfb697f57fce8fe54eef4ccb2202df00;
  h = hex 32 0x9e22a7ca37b8c4f4e4301052c3fb842e7b196aeba8207116ea3c01b8ec4318a7;
  message2 = hex 8 0x45c544212be863a7;
  message3 = hex 32 0x022b0d9abfd431e0f14a424e809350673dd34bfa025a5a47a4ed1c2183617352;
  leaf = 0;
  message5 = hex 79 0x988803272e0a62e60465cefe16b0c47d2519e01b1ffcd0104517f873c1ff10fd1f551e274d154de02da5f5fee7a5d46496ebc2ffa40e37b2de028213d66a553f728b8ec4d83dcbfe8eae965c5c1f44;
}

abbrev leaves_b : Exchange
leaves_b = record {
  prefix = hex 33 0x3cfb0d17566bfb77d8d9cb20efe303d621dfb697f57fce8fe54eef4ccb2202df00;
  h = hex 32 0x9e22a7ca37b8c4f4e4301052c3fb842e7b196aeba8207116ea3c01b8ec4318a7;
  message2 = hex 8 0x45c544212be863a7;
  message3 = hex 32 0x022b0d9abfd431e0f14a424e809350673dd34bfa025a5a47a4ed1c2183617352;
  leaf = 3;
  message5 = hex 72 0x5f7a229215cf7da61bb2c26ccb344734ac3abda0739932ae27fdc92e88e019171f551e274d154de02da5f5fee7a5d46496ebc2ffa40e37b2de028213d66a553f73c89c5463eca23a;
}

leaves-found :
    finding_lists (extract weak_leaves p key leaves_a leaves_b)
    ≡ (4 ∷ 2 ∷ []) ∷ []
unfolding definitions
leaves-found = refl
