-- The extractor's call of two runs.
--
-- p, key, work, out     parameters, matrix and y, work area and output as lent
-- .._a, .._b            the messages of two exchanges
-- honest, ..            the calls, with all that they are lent
-- ..-gives              what the call answers, and output and work area after it
use Rattle.std.specs.Prelude.{◌≡◌, refl, List, ℕ, replicate}
use Rattle.parameters.specs.declared.Parameters.{Parameters}
use Rattle.exchange.specs.Values.{Key}
use Rattle.test_standin.specs.StandIn.{hex, stand_in, weak}
use Rattle.runs.specs.Opening.{Transcript}
use Rattle.calls.specs.Extractor.{Outcome, refused, pair, filled, extraction}
use Rattle.test_calls.specs.Definitions.{definitions, gives, given}

abbrev p : Parameters
p = record { m = 2; k = 1; w = 1; axes = 1; t = 1 }

abbrev key : Key
key = record { matrix = hex 1 0x46; y = hex 1 0x40 }

abbrev work : List ℕ
work = replicate 32 0xa5

abbrev out : List ℕ
out = replicate 142 0x5a

abbrev honest_a : Transcript
honest_a = record {
  message1 = hex 96 0x14482009be253f8414bddda8601de65fbfb5a0c47106b6e449a3b686eca5146540d670f53eaba517de134e64a30246ccf55c0fb28ccdcf0bc0ab0e62e88dfd8a0e10b3daf574f95e0ca15273ae65d72e8d8b2377f2695f95562f7c5352ee76a7;
  message2 = hex 16 0x90277094505bfe6161d4d9b7aa7b704e;
  message3 = hex 64 0x2a4423564f2d10ee37cd0b5d1f4eea1631320a512f689370bed0c0b417c7123eb8a754d5297ef57142da935d920041bd5e3c482db639ccb6d2ec874c42440c53;
  leaves = hex 2 0x0000;
  message5 = hex 126 0x6c308defaf376a3b4cce4397f342b8b3caee451f78bf3e22c1bcaa5231ef91d4cb595d12863bea369c979a47f58fa57adb7916702e14675952b2c422672d9cb6cb8a8b73423eb11d0ad29d88de115125d84f32d923cdadfda9d762f3b068defe92b93075ab6c08b6a345ac09b7dd2d9e1db61421529bc6a8f363d58e5daf;
}

abbrev honest_b : Transcript
honest_b = record {
  message1 = hex 96 0x14482009be253f8414bddda8601de65fbfb5a0c47106b6e449a3b686eca5146540d670f53eaba517de134e64a30246ccf55c0fb28ccdcf0bc0ab0e62e88dfd8a0e10b3daf574f95e0ca15273ae65d72e8d8b2377f2695f95562f7c5352ee76a7;
  message2 = hex 16 0x90277094505bfe6161d4d9b7aa7b704e;
  message3 = hex 64 0x2a4423564f2d10ee37cd0b5d1f4eea1631320a512f689370bed0c0b417c7123eb8a754d5297ef57142da935d920041bd5e3c482db639ccb6d2ec874c42440c53;
  leaves = hex 2 0x0001;
  message5 = hex 119 0x6c308defaf376a3b4cce4397f342b8b3caee451f78bf3e22c1bcaa5231ef91d4cb595d12863bea369c979a47f58fa57adb7916702e14675952b2c422672d9c0d1781578ac5d11a6815de4b1c6147620a57c2071088a44679f1ba3db4ae7c08321a1fa4af277e09d016f7e804c9ecbf2d55d9db4d55bec6;
}

abbrev honest : Outcome
honest = extraction stand_in p 2 honest_a honest_b key work out

honest-gives :
    given honest
    ≡ gives (filled 1 1) (hex 142 0x5a5a5a5a5a5a5a5a5a5a5a5a5a5a5a5a5a5a5a5a5a5a5a5a5a5a5a5a5a5a5a5a5a5a5a5a5a5a5a5a5a5a5a5a5a5a5a5a5a5a5a5a5a5a5a5a5a5a5a5a5a5a5a5a5a5a5a5a5a5a5a3198ccc37fef974cbebb794c6ea93979ed0e33c2f2c98d69969f2dde062d1ec8c3a305073b033588b9fbe19a6a85e61cb38f546001cd343dc0c500d583faf737a8f363d58e5daf) (hex 32 0x000000000000000000000000000000000000000000000000000000000000a5a5)
unfolding definitions
honest-gives = refl

abbrev parameter_outside_a : Transcript
parameter_outside_a = record {
  message1 = hex 96 0x14482009be253f8414bddda8601de65fbfb5a0c47106b6e449a3b686eca5146540d670f53eaba517de134e64a30246ccf55c0fb28ccdcf0bc0ab0e62e88dfd8a0e10b3daf574f95e0ca15273ae65d72e8d8b2377f2695f95562f7c5352ee76a7;
  message2 = hex 16 0x90277094505bfe6161d4d9b7aa7b704e;
  message3 = hex 64 0x2a4423564f2d10ee37cd0b5d1f4eea1631320a512f689370bed0c0b417c7123eb8a754d5297ef57142da935d920041bd5e3c482db639ccb6d2ec874c42440c53;
  leaves = hex 2 0x0002;
  message5 = hex 126 0x6c308defaf376a3b4cce4397f342b8b3caee451f78bf3e22c1bcaa5231ef91d4cb595d12863bea369c979a47f58fa57adb7916702e14675952b2c422672d9cb6cb8a8b73423eb11d0ad29d88de115125d84f32d923cdadfda9d762f3b068defe92b93075ab6c08b6a345ac09b7dd2d9e1db61421529bc6a8f363d58e5daf;
}

abbrev parameter_outside : Outcome
parameter_outside = extraction stand_in (record { m = 2; k = 2; w = 1; axes = 1; t = 1 }) 2 parameter_outside_a honest_b key work out

parameter_outside-gives :
    given parameter_outside
    ≡ gives (refused 1) (replicate 142 0x5a) (replicate 32 0xa5)
unfolding definitions
parameter_outside-gives = refl

abbrev runs_outside : Outcome
runs_outside = extraction stand_in p 33 parameter_outside_a honest_b key work out

runs_outside-gives :
    given runs_outside
    ≡ gives (refused 1) (replicate 142 0x5a) (replicate 32 0xa5)
unfolding definitions
runs_outside-gives = refl

abbrev no_run : Outcome
no_run = extraction stand_in p 0 parameter_outside_a honest_b key work out

no_run-gives :
    given no_run
    ≡ gives (refused 1) (replicate 142 0x5a) (replicate 32 0xa5)
unfolding definitions
no_run-gives = refl

abbrev work_area_short : Outcome
work_area_short = extraction stand_in p 2 parameter_outside_a honest_b key (replicate 29 0xa5) out

work_area_short-gives :
    given work_area_short
    ≡ gives (refused 2) (replicate 142 0x5a) (replicate 29 0xa5)
unfolding definitions
work_area_short-gives = refl

abbrev leaves_short_b : Transcript
leaves_short_b = record {
  message1 = hex 96 0x14482009be253f8414bddda8601de65fbfb5a0c47106b6e449a3b686eca5146540d670f53eaba517de134e64a30246ccf55c0fb28ccdcf0bc0ab0e62e88dfd8a0e10b3daf574f95e0ca15273ae65d72e8d8b2377f2695f95562f7c5352ee76a7;
  message2 = hex 16 0x90277094505bfe6161d4d9b7aa7b704e;
  message3 = hex 64 0x2a4423564f2d10ee37cd0b5d1f4eea1631320a512f689370bed0c0b417c7123eb8a754d5297ef57142da935d920041bd5e3c482db639ccb6d2ec874c42440c53;
  leaves = hex 1 0x00;
  message5 = hex 119 0x6c308defaf376a3b4cce4397f342b8b3caee451f78bf3e22c1bcaa5231ef91d4cb595d12863bea369c979a47f58fa57adb7916702e14675952b2c422672d9c0d1781578ac5d11a6815de4b1c6147620a57c2071088a44679f1ba3db4ae7c08321a1fa4af277e09d016f7e804c9ecbf2d55d9db4d55bec6;
}

abbrev leaves_short : Outcome
leaves_short = extraction stand_in p 2 parameter_outside_a leaves_short_b key work out

leaves_short-gives :
    given leaves_short
    ≡ gives (refused 2) (replicate 142 0x5a) (replicate 32 0xa5)
unfolding definitions
leaves_short-gives = refl

abbrev output_long_b : Transcript
output_long_b = record {
  message1 = hex 96 0x14482009be253f8414bddda8601de65fbfb5a0c47106b6e449a3b686eca5146540d670f53eaba517de134e64a30246ccf55c0fb28ccdcf0bc0ab0e62e88dfd8a0e10b3daf574f95e0ca15273ae65d72e8d8b2377f2695f95562f7c5352ee76a7;
  message2 = hex 16 0x90277094505bfe6161d4d9b7aa7b704f;
  message3 = hex 64 0x2a4423564f2d10ee37cd0b5d1f4eea1631320a512f689370bed0c0b417c7123eb8a754d5297ef57142da935d920041bd5e3c482db639ccb6d2ec874c42440c53;
  leaves = hex 2 0x0001;
  message5 = hex 119 0x6c308defaf376a3b4cce4397f342b8b3caee451f78bf3e22c1bcaa5231ef91d4cb595d12863bea369c979a47f58fa57adb7916702e14675952b2c422672d9c0d1781578ac5d11a6815de4b1c6147620a57c2071088a44679f1ba3db4ae7c08321a1fa4af277e09d016f7e804c9ecbf2d55d9db4d55bec6;
}

abbrev output_long : Outcome
output_long = extraction stand_in p 2 honest_a output_long_b key work (replicate 143 0x5a)

output_long-gives :
    given output_long
    ≡ gives (refused 2) (replicate 143 0x5a) (replicate 32 0xa5)
unfolding definitions
output_long-gives = refl

abbrev leaf_beyond : Outcome
leaf_beyond = extraction stand_in p 2 parameter_outside_a output_long_b key work out

leaf_beyond-gives :
    given leaf_beyond
    ≡ gives (refused 4) (replicate 142 0x5a) (replicate 32 0xa5)
unfolding definitions
leaf_beyond-gives = refl

abbrev multiplier_differs_b : Transcript
multiplier_differs_b = record {
  message1 = hex 96 0x14482009be253f8414bddda8601de65fbfb5a0c47106b6e449a3b686eca5146540d670f53eaba517de134e64a30246ccf55c0fb28ccdcf0bc0ab0e62e88dfd8a0e10b3daf574f95e0ca15273ae65d72e8d8b2377f2695f95562f7c5352ee76a7;
  message2 = hex 16 0x90277094505bfe6161d4d9b7aa7b704f;
  message3 = hex 64 0x2a4423564f2d10ee37cd0b5d1f4eea1631320a512f689370bed0c0b417c7123eb8a754d5297ef57142da935d920041bd5e3c482db639ccb6d2ec874c42440c53;
  leaves = hex 2 0x0000;
  message5 = hex 126 0x6c308defaf376a3b4cce4397f342b8b3caee451f78bf3e22c1bcaa5231ef91d4cb595d12863bea369c979a47f58fa57adb7916702e14675952b2c422672d9cb6cb8a8b73423eb11d0ad29d88de115125d84f32d923cdadfda9d762f3b068defe92b93075ab6c08b6a345ac09b7dd2d9e1db61421529bc6a8f363d58e5daf;
}

abbrev multiplier_differs : Outcome
multiplier_differs = extraction stand_in p 2 honest_a multiplier_differs_b key work out

multiplier_differs-gives :
    given multiplier_differs
    ≡ gives (refused 8) (replicate 142 0x5a) (replicate 32 0xa5)
unfolding definitions
multiplier_differs-gives = refl

abbrev same_leaves_a : Transcript
same_leaves_a = record {
  message1 = hex 96 0x14482009be253f8414bddda8601de65fbfb5a0c47106b6e449a3b686eca5146540d670f53eaba517de134e64a30246ccf55c0fb28ccdcf0bc0ab0e62e88dfd8a0e10b3daf574f95e0ca15273ae65d72e8d8b2377f2695f95562f7c5352ee76a7;
  message2 = hex 16 0x90277094505bfe6161d4d9b7aa7b704e;
  message3 = hex 64 0x2a4423564f2d10ee37cd0b5d1f4eea1631320a512f689370bed0c0b417c7123eb8a754d5297ef57142da935d920041bd5e3c482db639ccb6d2ec874c42440c53;
  leaves = hex 2 0x0000;
  message5 = hex 126 0x6c308defaf376a3b4cce4397f342b8b3caee451f78bf3e22c1bcaa5231ef91d4cb595d12863bea369c979a47f58fa57adb7916702e14675952b2c422672d9cb6cb8a8b73423eb11d0ad29d88de115124d84f32d923cdadfda9d762f3b068defe92b93075ab6c08b6a345ac09b7dd2d9e1db61421529bc6a8f363d58e5daf;
}

abbrev same_leaves : Outcome
same_leaves = extraction stand_in p 2 same_leaves_a same_leaves_a key work out

same_leaves-gives :
    given same_leaves
    ≡ gives (refused 9) (replicate 142 0x5a) (replicate 32 0xa5)
unfolding definitions
same_leaves-gives = refl

abbrev commitment_differs_b : Transcript
commitment_differs_b = record {
  message1 = hex 96 0x14482009be253f8414bddda8601de65fbfb5a0c47106b6e449a3b686eca5146540d670f53eaba517de134e64a30246ccf55c0fb28ccdcf0bc0ab0e62e88dfd8a0e10b3daf574f95e0ca15273ae65d72e8d8b2377f2695f95562f7c5352ee76a7;
  message2 = hex 16 0x90277094505bfe6161d4d9b7aa7b704e;
  message3 = hex 64 0x2a4423564f2d10ee37cd0b5d1f4eea1631320a512f689370bed0c0b417c7123eb8a754d5297ef57142da935d920041bd5e3c482db639ccb6d2ec874c42440c53;
  leaves = hex 2 0x0001;
  message5 = hex 119 0x6c308defaf376a3b4cce4397f342b8b3caee451f78bf3e22c1bcaa5231ef91d4cb595d12863bea369c979a47f58fa57ada7916702e14675952b2c422672d9c0d1781578ac5d11a6815de4b1c6147620a57c2071088a44679f1ba3db4ae7c08321a1fa4af277e09d016f7e804c9ecbf2d55d9db4d55bec6;
}

abbrev commitment_differs : Outcome
commitment_differs = extraction stand_in p 2 same_leaves_a commitment_differs_b key work out

commitment_differs-gives :
    given commitment_differs
    ≡ gives (refused 5) (replicate 142 0x5a) (hex 32 0x000000000000000000000000000000000000000000000000000000000000a5a5)
unfolding definitions
commitment_differs-gives = refl

abbrev response_a : Transcript
response_a = record {
  message1 = hex 96 0x14482009be253f8414bddda8601de65fbfb5a0c47106b6e449a3b686eca5146540d670f53eaba517de134e64a30246ccf55c0fb28ccdcf0bc0ab0e62e88dfd8a0e10b3daf574f95e0ca15273ae65d72e8d8b2377f2695f95562f7c5352ee76a7;
  message2 = hex 16 0x90277094505bfe6161d4d9b7aa7b704e;
  message3 = hex 64 0x2075888cdd9e130740aeade875ae5c63ee055d7f42df3e68f1bdf5a527c0c8a42075888cdd9e130740aeade875ae5c63ee055d7f42df3e68f1bdf5a527c0c8a4;
  leaves = hex 2 0x0000;
  message5 = hex 126 0x6c308defaf376a3b4cce4397f342b8b3caee451f78bf3e22c1bcaa5231ef91d4cb595d12863bea369c979a47f58fa57adb7916702e14675952b2c422672d9cb6cb8a8b73423eb11d0ad29d88de115125d84f32d923cdadfda9d762f3b068defe92b93075ab6c08b6a345ac09b7dd2d9e1db61421529bc6a8f363d58e5daf;
}

abbrev response_b : Transcript
response_b = record {
  message1 = hex 96 0x14482009be253f8414bddda8601de65fbfb5a0c47106b6e449a3b686eca5146540d670f53eaba517de134e64a30246ccf55c0fb28ccdcf0bc0ab0e62e88dfd8a0e10b3daf574f95e0ca15273ae65d72e8d8b2377f2695f95562f7c5352ee76a7;
  message2 = hex 16 0x90277094505bfe6161d4d9b7aa7b704e;
  message3 = hex 64 0x2075888cdd9e130740aeade875ae5c63ee055d7f42df3e68f1bdf5a527c0c8a42075888cdd9e130740aeade875ae5c63ee055d7f42df3e68f1bdf5a527c0c8a4;
  leaves = hex 2 0x0101;
  message5 = hex 112 0xdd1ba79e6e775becd26123405f545004ea138e80c52e8658805b7c27cf97accdefbc7ddac527df7961b511e12a34d3a11773dca1ee6a9fad0d1781578ac5d11a6815de4b1c6147620a57c2071088a44679f1ba3db4ae7c08321a1fa4af277e09d016f7e804c9ecbf2c55d9db4d55bec6;
}

abbrev response : Outcome
response = extraction (weak 7) p 2 response_a response_b key work out

response-gives :
    given response
    ≡ gives (pair 1 7 0) (replicate 142 0x5a) (hex 32 0x000000000000000000000000000000000000000000000000000000000000a5a5)
unfolding definitions
response-gives = refl
