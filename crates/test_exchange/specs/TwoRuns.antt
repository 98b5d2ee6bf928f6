-- m 2, k 1, w 1, D 1, t 1, two runs.
--
-- sample         a key, an exchange of it, and what follows from them
-- computed       the definitions compute it
-- ..-judged      verdicts: of the exchange that hides its leaves, and with parts of message 5 changed
use Rattle.std.specs.Prelude.{◌≡◌, refl}
use Rattle.test_standin.specs.StandIn.{hex}
use Rattle.test_standin.specs.Definitions.{definitions}
use Rattle.test_exchange.specs.Definitions.{Sample, judged, Computed}

abbrev sample : Sample
sample = record {
  p = record { m = 2; k = 1; w = 1; axes = 1; t = 1 };
  runs = 2;
  key = record { matrix = hex 1 0x46; y = hex 1 0x40 };
  x_a = hex 1 0x09;
  salt = hex 32 0x14482009be253f8414bddda8601de65fbfb5a0c47106b6e449a3b686eca51465;
  root = hex 16 0x6034e312e6e8537b4b5cfd0bd89b3ce6;
  message2 = hex 16 0x90277094505bfe6161d4d9b7aa7b704e;
  leaves = hex 2 0x0001;
  lasts = hex 2 0x0101;
  x = hex 2 0x0900;
  S = hex 2 0x0e07;
  Q = hex 2 0x0101;
  P = hex 1 0x07;
  F = hex 3 0x020301;
  message1 = hex 96 0x14482009be253f8414bddda8601de65fbfb5a0c47106b6e449a3b686eca5146540d670f53eaba517de134e64a30246ccf55c0fb28ccdcf0bc0ab0e62e88dfd8a0e10b3daf574f95e0ca15273ae65d72e8d8b2377f2695f95562f7c5352ee76a7;
  message3 = hex 64 0x2a4423564f2d10ee37cd0b5d1f4eea1631320a512f689370bed0c0b417c7123eb8a754d5297ef57142da935d920041bd5e3c482db639ccb6d2ec874c42440c53;
  message5 = hex 119 0x6c308defaf376a3b4cce4397f342b8b3caee451f78bf3e22c1bcaa5231ef91d4cb595d12863bea369c979a47f58fa57adb7916702e14675952b2c422672d9c0d1781578ac5d11a6815de4b1c6147620a57c2071088a44679f1ba3db4ae7c08321a1fa4af277e09d016f7e804c9ecbf2d55d9db4d55bec6;
  last5 = hex 112 0xdd1ba79e6e775becd26123405f545004ea138e80c52e8658805b7c27cf97accdefbc7ddac527df7961b511e12a34d3a11773dca1ee6a9fad0d1781578ac5d11a6815de4b1c6147620a57c2071088a44679f1ba3db4ae7c08321a1fa4af277e09d016f7e804c9ecbf2d55d9db4d55bec6;
}

computed : Computed sample
unfolding definitions
computed = record {
  x-is = refl;
  S-is = refl;
  Q-is = refl;
  P-is = refl;
  F-is = refl;
  message1-is = refl;
  message3-is = refl;
  message5-is = refl;
  last5-is = refl;
  last-judged = refl;
}

hidden-judged :
    judged sample (hex 2 0x0001) (hex 119 0x6c308defaf376a3b4cce4397f342b8b3caee451f78bf3e22c1bcaa5231ef91d4cb595d12863bea369c979a47f58fa57adb7916702e14675952b2c422672d9c0d1781578ac5d11a6815de4b1c6147620a57c2071088a44679f1ba3db4ae7c08321a1fa4af277e09d016f7e804c9ecbf2d55d9db4d55bec6)
    ≡ 0
unfolding definitions
hidden-judged = refl

second_changed-judged :
    judged sample (hex 2 0x0001) (hex 119 0x6c308defaf376a3b4cce4397f342b8b3caee451f78bf3e22c1bcaa5231ef91d4cb595d12863bea369c979a47f58fa57adb7916702e14675952b2c422672d9c0d1781578ac5d11a6815de4b1c6147620b57c2071088a44679f1ba3db4ae7c08321a1fa4af277e09d016f7e804c9ecbf2d55d9db4d55bec6)
    ≡ 5
unfolding definitions
second_changed-judged = refl

alpha_then_commitment-judged :
    judged sample (hex 2 0x0001) (hex 119 0x6c308defaf376a3b4cce4397f342b8b3caee451f78bf3e22c1bcaa5231ef91d4cb595d12863bea369c979a47f58fa57ada7916702e14675952b2c422672d9c0d1781578ac5d11a6815de4b1c6147620b57c2071088a44679f1ba3db4ae7c08321a1fa4af277e09d016f7e804c9ecbf2d55d9db4d55bec6)
    ≡ 7
unfolding definitions
alpha_then_commitment-judged = refl

commitment_then_alpha-judged :
    judged sample (hex 2 0x0001) (hex 119 0x6c308defaf376a3b4cce4397f342b8b3cbee451f78bf3e22c1bcaa5231ef91d4cb595d12863bea369c979a47f58fa57adb7916702e14675952b2c422672d9c0d1781578ac5d11a6815de4b1c6147620a57c2071088a44679f1ba3db4ae7c08321a1fa4af277e09d016f7e804c9ecbf2c55d9db4d55bec6)
    ≡ 5
unfolding definitions
commitment_then_alpha-judged = refl
