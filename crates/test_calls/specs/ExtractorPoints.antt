-- The extractor's call of two runs where points of a run are equal, or alike and not equal, with a second fault.
--
-- p, key, work, out       parameters, matrix and y, work area and output as lent
-- .._a, .._b              the messages of two exchanges
-- ends..                  points 0 and 2 of run 1 are equal in both, and the work area is short, a leaf is n, or the leaves
--                         are the same; of the first alone: messages 2 differ
-- neighbours_of_second    points 0 and 1 of run 0 are equal in the second alone
-- alike_beyond            points apart in one byte, runs and multipliers alike, messages 2 differ, and a leaf is n
-- ..-gives                what the call answers, and output and work area after it
use Rattle.std.specs.Prelude.{◌≡◌, refl, List, ℕ, replicate}
use Rattle.parameters.specs.declared.Parameters.{Parameters}
use Rattle.exchange.specs.Values.{Key}
use Rattle.test_standin.specs.StandIn.{hex, stand_in}
use Rattle.runs.specs.Opening.{Transcript}
use Rattle.calls.specs.Extractor.{Outcome, refused, extraction}
use Rattle.test_calls.specs.Definitions.{definitions, gives, given}

abbrev p : Parameters
p = record { m = 2; k = 1; w = 1; axes = 1; t = 3 }

abbrev key : Key
key = record { matrix = hex 1 0x02; y = hex 1 0x19 }

abbrev work : List ℕ
work = replicate 80 0xa5

abbrev out : List ℕ
out = replicate 158 0x5a

abbrev ends_short_a : Transcript
ends_short_a = record {
  message1 = hex 96 0x2252e62b130ea7aa42e6da8ab8996b1143bfb6cee56c6544714288546b13c62f28c1958c1c28a33280a7cbe7e3239f2dcbc78bfdb1571b02d3199db5e23a4ff1fd9df847e57e72d4c964d6997b4875dbc18f14293319f806397ca4921a05443c;
  message2 = hex 48 0xcbda11f6fe6169eb2c4e30e6f8afc735f82fcd9dff30e9ba5f471d78acc8d2015f471d785be1c940ec82f60f7e56e88a;
  message3 = hex 64 0x34ec45bb59fec65066832aebba932ba1a285ef3858c893438c4e05c24d2db64de67ecaf6b299e5c16b118be6f596584a8210797d1d4a969d39578e222b53ca2d;
  leaves = hex 2 0x0000;
  message5 = hex 174 0xef4babaac3e8730b171ecbca4d6cbf9dc0f12b232352dcf97050dcb30ec6878d177c9840c3f4501e5fa3275c3ce40ef61d9dc19f1bee3fc3f9b7492bfb608b0825cd4fc2f46595f27e5df656acfc88b1cb02b247a73d37c505808d59b4ead729e28131bb3fee965e8fcafde5a90137ad33f79057b6ef8c295367a15f0c7266b692340bf67888b5ada6fd0dbcebb534ca3c58caf8c2263f0b2bb78092764e5ca57c4d5a0967e5ea864d30caebfe64;
}

abbrev ends_short_b : Transcript
ends_short_b = record {
  message1 = hex 96 0x2252e62b130ea7aa42e6da8ab8996b1143bfb6cee56c6544714288546b13c62f28c1958c1c28a33280a7cbe7e3239f2dcbc78bfdb1571b02d3199db5e23a4ff1fd9df847e57e72d4c964d6997b4875dbc18f14293319f806397ca4921a05443c;
  message2 = hex 48 0xcbda11f6fe6169eb2c4e30e6f8afc735f82fcd9dff30e9ba5f471d78acc8d2015f471d785be1c940ec82f60f7e56e88a;
  message3 = hex 64 0x34ec45bb59fec65066832aebba932ba1a285ef3858c893438c4e05c24d2db64de67ecaf6b299e5c16b118be6f596584a8210797d1d4a969d39578e222b53ca2d;
  leaves = hex 2 0x0001;
  message5 = hex 159 0xef4babaac3e8730b171ecbca4d6cbf9dc0f12b232352dcf97050dcb30ec6878d177c9840c3f4501e5fa3275c3ce40ef61d9dc19f1bee3fc3f9b7492bfb608b0825cd4fc2f46595f27e5df656acfc88b1cb02b247a73d37ac3d4ea5a92e56efba5bd58f92bba6ce912f2fef4187ad6e1086a8e0b9080273456124c19ff6711b3c1db225f88bacab1849751bbd265f83c5f9a199972b4ec537bf5d1a76297d00;
}

abbrev ends_short : Outcome
ends_short = extraction stand_in p 2 ends_short_a ends_short_b key (replicate 77 0xa5) out

ends_short-gives :
    given ends_short
    ≡ gives (refused 2) (replicate 158 0x5a) (replicate 77 0xa5)
unfolding definitions
ends_short-gives = refl

abbrev ends_beyond_a : Transcript
ends_beyond_a = record {
  message1 = hex 96 0x2252e62b130ea7aa42e6da8ab8996b1143bfb6cee56c6544714288546b13c62f28c1958c1c28a33280a7cbe7e3239f2dcbc78bfdb1571b02d3199db5e23a4ff1fd9df847e57e72d4c964d6997b4875dbc18f14293319f806397ca4921a05443c;
  message2 = hex 48 0xcbda11f6fe6169eb2c4e30e6f8afc735f82fcd9dff30e9ba5f471d78acc8d2015f471d785be1c940ec82f60f7e56e88a;
  message3 = hex 64 0x34ec45bb59fec65066832aebba932ba1a285ef3858c893438c4e05c24d2db64de67ecaf6b299e5c16b118be6f596584a8210797d1d4a969d39578e222b53ca2d;
  leaves = hex 2 0x0002;
  message5 = hex 174 0xef4babaac3e8730b171ecbca4d6cbf9dc0f12b232352dcf97050dcb30ec6878d177c9840c3f4501e5fa3275c3ce40ef61d9dc19f1bee3fc3f9b7492bfb608b0825cd4fc2f46595f27e5df656acfc88b1cb02b247a73d37c505808d59b4ead729e28131bb3fee965e8fcafde5a90137ad33f79057b6ef8c295367a15f0c7266b692340bf67888b5ada6fd0dbcebb534ca3c58caf8c2263f0b2bb78092764e5ca57c4d5a0967e5ea864d30caebfe64;
}

abbrev ends_beyond : Outcome
ends_beyond = extraction stand_in p 2 ends_beyond_a ends_short_b key work out

ends_beyond-gives :
    given ends_beyond
    ≡ gives (refused 14) (replicate 158 0x5a) (replicate 80 0xa5)
unfolding definitions
ends_beyond-gives = refl

abbrev ends_same_leaves : Outcome
ends_same_leaves = extraction stand_in p 2 ends_short_a ends_short_a key work out

ends_same_leaves-gives :
    given ends_same_leaves
    ≡ gives (refused 14) (replicate 158 0x5a) (replicate 80 0xa5)
unfolding definitions
ends_same_leaves-gives = refl

abbrev ends_of_first_b : Transcript
ends_of_first_b = record {
  message1 = hex 96 0x2252e62b130ea7aa42e6da8ab8996b1143bfb6cee56c6544714288546b13c62f28c1958c1c28a33280a7cbe7e3239f2dcbc78bfdb1571b02d3199db5e23a4ff1fd9df847e57e72d4c964d6997b4875dbc18f14293319f806397ca4921a05443c;
  message2 = hex 48 0xcbda11f6fe6169eb2c4e30e6f8afc735f82fcd9dff30e9ba5f471d78acc8d2012b7075075be1c940ec82f60f7e56e88a;
  message3 = hex 64 0x34ec45bb59fec65066832aebba932ba1a285ef3858c893438c4e05c24d2db64de67ecaf6b299e5c16b118be6f596584a8210797d1d4a969d39578e222b53ca2d;
  leaves = hex 2 0x0001;
  message5 = hex 159 0xef4babaac3e8730b171ecbca4d6cbf9dc0f12b232352dcf97050dcb30ec6878d177c9840c3f4501e5fa3275c3ce40ef61d9dc19f1bee3fc3f9b7492bfb608b0825cd4fc2f46595f27e5df656acfc88b1cb02b247a73d37ac3d4ea5a92e56efba5bd58f92bba6ce912f2fef4187ad6e1086a8e0b9080273456124c19ff6711b3c1db225f88bacab1849751bbd265f83c5f9a199972b4ec537bf5d1a76297d00;
}

abbrev ends_of_first : Outcome
ends_of_first = extraction stand_in p 2 ends_short_a ends_of_first_b key work out

ends_of_first-gives :
    given ends_of_first
    ≡ gives (refused 14) (replicate 158 0x5a) (replicate 80 0xa5)
unfolding definitions
ends_of_first-gives = refl

abbrev neighbours_of_second_a : Transcript
neighbours_of_second_a = record {
  message1 = hex 96 0x2252e62b130ea7aa42e6da8ab8996b1143bfb6cee56c6544714288546b13c62f28c1958c1c28a33280a7cbe7e3239f2dcbc78bfdb1571b02d3199db5e23a4ff1fd9df847e57e72d4c964d6997b4875dbc18f14293319f806397ca4921a05443c;
  message2 = hex 48 0xcbda11f6fe6169eb2c4e30e6f8afc735f82fcd9dff30e9ba5f471d78acc8d2012b7075075be1c940ec82f60f7e56e88a;
  message3 = hex 64 0x34ec45bb59fec65066832aebba932ba1a285ef3858c893438c4e05c24d2db64de67ecaf6b299e5c16b118be6f596584a8210797d1d4a969d39578e222b53ca2d;
  leaves = hex 2 0x0000;
  message5 = hex 174 0xef4babaac3e8730b171ecbca4d6cbf9dc0f12b232352dcf97050dcb30ec6878d177c9840c3f4501e5fa3275c3ce40ef61d9dc19f1bee3fc3f9b7492bfb608b0825cd4fc2f46595f27e5df656acfc88b1cb02b247a73d37c505808d59b4ead729e28131bb3fee965e8fcafde5a90137ad33f79057b6ef8c295367a15f0c7266b692340bf67888b5ada6fd0dbcebb534ca3c58caf8c2263f0b2bb78092764e5ca57c4d5a0967e5ea864d30caebfe64;
}

abbrev neighbours_of_second_b : Transcript
neighbours_of_second_b = record {
  message1 = hex 96 0x2252e62b130ea7aa42e6da8ab8996b1143bfb6cee56c6544714288546b13c62f28c1958c1c28a33280a7cbe7e3239f2dcbc78bfdb1571b02d3199db5e23a4ff1fd9df847e57e72d4c964d6997b4875dbc18f14293319f806397ca4921a05443c;
  message2 = hex 48 0xcbda11f6cbda11f62c4e30e6f8afc735f82fcd9dff30e9ba5f471d78acc8d2012b7075075be1c940ec82f60f7e56e88a;
  message3 = hex 64 0x34ec45bb59fec65066832aebba932ba1a285ef3858c893438c4e05c24d2db64de67ecaf6b299e5c16b118be6f596584a8210797d1d4a969d39578e222b53ca2d;
  leaves = hex 2 0x0001;
  message5 = hex 159 0xef4babaac3e8730b171ecbca4d6cbf9dc0f12b232352dcf97050dcb30ec6878d177c9840c3f4501e5fa3275c3ce40ef61d9dc19f1bee3fc3f9b7492bfb608b0825cd4fc2f46595f27e5df656acfc88b1cb02b247a73d37ac3d4ea5a92e56efba5bd58f92bba6ce912f2fef4187ad6e1086a8e0b9080273456124c19ff6711b3c1db225f88bacab1849751bbd265f83c5f9a199972b4ec537bf5d1a76297d00;
}

abbrev neighbours_of_second : Outcome
neighbours_of_second = extraction stand_in p 2 neighbours_of_second_a neighbours_of_second_b key work out

neighbours_of_second-gives :
    given neighbours_of_second
    ≡ gives (refused 14) (replicate 158 0x5a) (replicate 80 0xa5)
unfolding definitions
neighbours_of_second-gives = refl

abbrev alike_beyond_a : Transcript
alike_beyond_a = record {
  message1 = hex 96 0x2252e62b130ea7aa42e6da8ab8996b1143bfb6cee56c6544714288546b13c62f28c1958c1c28a33280a7cbe7e3239f2dcbc78bfdb1571b02d3199db5e23a4ff1fd9df847e57e72d4c964d6997b4875dbc18f14293319f806397ca4921a05443c;
  message2 = hex 48 0xcbda11f6cada11f6cbdb11f6cbda11f6cbda11f6cbda11f6cbda11f6cada11f6cbdb11f6cbda11f6cbda11f6cbda11f6;
  message3 = hex 64 0x34ec45bb59fec65066832aebba932ba1a285ef3858c893438c4e05c24d2db64de67ecaf6b299e5c16b118be6f596584a8210797d1d4a969d39578e222b53ca2d;
  leaves = hex 2 0x0002;
  message5 = hex 174 0xef4babaac3e8730b171ecbca4d6cbf9dc0f12b232352dcf97050dcb30ec6878d177c9840c3f4501e5fa3275c3ce40ef61d9dc19f1bee3fc3f9b7492bfb608b0825cd4fc2f46595f27e5df656acfc88b1cb02b247a73d37c505808d59b4ead729e28131bb3fee965e8fcafde5a90137ad33f79057b6ef8c295367a15f0c7266b692340bf67888b5ada6fd0dbcebb534ca3c58caf8c2263f0b2bb78092764e5ca57c4d5a0967e5ea864d30caebfe64;
}

abbrev alike_beyond_b : Transcript
alike_beyond_b = record {
  message1 = hex 96 0x2252e62b130ea7aa42e6da8ab8996b1143bfb6cee56c6544714288546b13c62f28c1958c1c28a33280a7cbe7e3239f2dcbc78bfdb1571b02d3199db5e23a4ff1fd9df847e57e72d4c964d6997b4875dbc18f14293319f806397ca4921a05443c;
  message2 = hex 48 0xcbda11f6cbda10f6cbda11f7cbda11f6cbda11f6cbda11f6cbda11f6cbda10f6cbda11f7cbda11f6cbda11f6cbda11f6;
  message3 = hex 64 0x34ec45bb59fec65066832aebba932ba1a285ef3858c893438c4e05c24d2db64de67ecaf6b299e5c16b118be6f596584a8210797d1d4a969d39578e222b53ca2d;
  leaves = hex 2 0x0001;
  message5 = hex 159 0xef4babaac3e8730b171ecbca4d6cbf9dc0f12b232352dcf97050dcb30ec6878d177c9840c3f4501e5fa3275c3ce40ef61d9dc19f1bee3fc3f9b7492bfb608b0825cd4fc2f46595f27e5df656acfc88b1cb02b247a73d37ac3d4ea5a92e56efba5bd58f92bba6ce912f2fef4187ad6e1086a8e0b9080273456124c19ff6711b3c1db225f88bacab1849751bbd265f83c5f9a199972b4ec537bf5d1a76297d00;
}

abbrev alike_beyond : Outcome
alike_beyond = extraction stand_in p 2 alike_beyond_a alike_beyond_b key work out

alike_beyond-gives :
    given alike_beyond
    ≡ gives (refused 4) (replicate 158 0x5a) (replicate 80 0xa5)
unfolding definitions
alike_beyond-gives = refl
