-- The verifier's calls, each made on the session that the call before it left; the first on a fresh one.
--
-- p, key, m1, m2, m3, m5     parameters, matrix and y, the messages of an honest exchange
-- work                       a work area, longer than its named length
-- call1, call2, ..           the calls, with all that they are lent
-- damaged                    a session whose opening is due, with leaf n in run 1
-- call1-gives, ..            the number that the call answers; of an opening, then the work area
use Rattle.std.specs.Prelude.{◌≡◌, refl, List, [], ◌∷◌, ℕ, replicate}
use Rattle.parameters.specs.declared.Parameters.{Parameters}
use Rattle.exchange.specs.Values.{Key}
use Rattle.test_standin.specs.StandIn.{hex, stand_in}
use Rattle.calls.specs.Verifier.{Verifier, Outcome, Judged, fresh, begin, points, response, leaf, opening}
use Rattle.test_calls.specs.Definitions.{definitions}

abbrev p : Parameters
p = record { m = 2; k = 1; w = 1; axes = 1; t = 1 }

abbrev key : Key
key = record { matrix = hex 1 0x46; y = hex 1 0x40 }

abbrev m1 : List ℕ
m1 = hex 96 0x14482009be253f8414bddda8601de65fbfb5a0c47106b6e449a3b686eca5146540d670f53eaba517de134e64a30246ccf55c0fb28ccdcf0bc0ab0e62e88dfd8a0e10b3daf574f95e0ca15273ae65d72e8d8b2377f2695f95562f7c5352ee76a7

abbrev m2 : List ℕ
m2 = hex 16 0x90277094505bfe6161d4d9b7aa7b704e

abbrev m3 : List ℕ
m3 = hex 64 0x2a4423564f2d10ee37cd0b5d1f4eea1631320a512f689370bed0c0b417c7123eb8a754d5297ef57142da935d920041bd5e3c482db639ccb6d2ec874c42440c53

abbrev m5 : List ℕ
m5 = hex 119 0x6c308defaf376a3b4cce4397f342b8b3caee451f78bf3e22c1bcaa5231ef91d4cb595d12863bea369c979a47f58fa57adb7916702e14675952b2c422672d9c0d1781578ac5d11a6815de4b1c6147620a57c2071088a44679f1ba3db4ae7c08321a1fa4af277e09d016f7e804c9ecbf2d55d9db4d55bec6

abbrev work : List ℕ
work = replicate 32 0xa5

-- call1: leaves 0 and n before the first begin
abbrev call1 : Outcome
call1 = leaf fresh (hex 2 0x0002)

call1-gives :
    call1.answer
    ≡ 11
unfolding definitions
call1-gives = refl

-- call2: begin with t 9, message 1 a byte short
abbrev call2 : Outcome
call2 = begin call1.verifier (record { m = 2; k = 1; w = 1; axes = 1; t = 9 }) 2 (hex 95 0x14482009be253f8414bddda8601de65fbfb5a0c47106b6e449a3b686eca5146540d670f53eaba517de134e64a30246ccf55c0fb28ccdcf0bc0ab0e62e88dfd8a0e10b3daf574f95e0ca15273ae65d72e8d8b2377f2695f95562f7c5352ee76)

call2-gives :
    call2.answer
    ≡ 1
unfolding definitions
call2-gives = refl

-- call3: begin with no run, message 1 a byte short
abbrev call3 : Outcome
call3 = begin call2.verifier p 0 (hex 95 0x14482009be253f8414bddda8601de65fbfb5a0c47106b6e449a3b686eca5146540d670f53eaba517de134e64a30246ccf55c0fb28ccdcf0bc0ab0e62e88dfd8a0e10b3daf574f95e0ca15273ae65d72e8d8b2377f2695f95562f7c5352ee76)

call3-gives :
    call3.answer
    ≡ 1
unfolding definitions
call3-gives = refl

-- call4: begin with 33 runs, message 1 a byte short
abbrev call4 : Outcome
call4 = begin call3.verifier p 33 (hex 95 0x14482009be253f8414bddda8601de65fbfb5a0c47106b6e449a3b686eca5146540d670f53eaba517de134e64a30246ccf55c0fb28ccdcf0bc0ab0e62e88dfd8a0e10b3daf574f95e0ca15273ae65d72e8d8b2377f2695f95562f7c5352ee76)

call4-gives :
    call4.answer
    ≡ 1
unfolding definitions
call4-gives = refl

-- call5: begin with two runs, message 1 a byte short
abbrev call5 : Outcome
call5 = begin call4.verifier p 2 (hex 95 0x14482009be253f8414bddda8601de65fbfb5a0c47106b6e449a3b686eca5146540d670f53eaba517de134e64a30246ccf55c0fb28ccdcf0bc0ab0e62e88dfd8a0e10b3daf574f95e0ca15273ae65d72e8d8b2377f2695f95562f7c5352ee76)

call5-gives :
    call5.answer
    ≡ 2
unfolding definitions
call5-gives = refl

-- call6: begin
abbrev call6 : Outcome
call6 = begin call5.verifier p 2 m1

call6-gives :
    call6.answer
    ≡ 0
unfolding definitions
call6-gives = refl

-- call7: response before points, message 3 a byte short
abbrev call7 : Outcome
call7 = response call6.verifier (hex 63 0x2a4423564f2d10ee37cd0b5d1f4eea1631320a512f689370bed0c0b417c7123eb8a754d5297ef57142da935d920041bd5e3c482db639ccb6d2ec874c42440c)

call7-gives :
    call7.answer
    ≡ 11
unfolding definitions
call7-gives = refl

-- call8: points, message 2 a byte short
abbrev call8 : Outcome
call8 = points call7.verifier (hex 15 0x90277094505bfe6161d4d9b7aa7b70)

call8-gives :
    call8.answer
    ≡ 2
unfolding definitions
call8-gives = refl

-- call9: points
abbrev call9 : Outcome
call9 = points call8.verifier m2

call9-gives :
    call9.answer
    ≡ 0
unfolding definitions
call9-gives = refl

-- call10: response, message 3 a byte short
abbrev call10 : Outcome
call10 = response call9.verifier (hex 63 0x2a4423564f2d10ee37cd0b5d1f4eea1631320a512f689370bed0c0b417c7123eb8a754d5297ef57142da935d920041bd5e3c482db639ccb6d2ec874c42440c)

call10-gives :
    call10.answer
    ≡ 2
unfolding definitions
call10-gives = refl

-- call11: response
abbrev call11 : Outcome
call11 = response call10.verifier m3

call11-gives :
    call11.answer
    ≡ 0
unfolding definitions
call11-gives = refl

-- call12: leaf n alone
abbrev call12 : Outcome
call12 = leaf call11.verifier (hex 1 0x02)

call12-gives :
    call12.answer
    ≡ 2
unfolding definitions
call12-gives = refl

-- call13: leaves 0, 0 and n
abbrev call13 : Outcome
call13 = leaf call12.verifier (hex 3 0x000002)

call13-gives :
    call13.answer
    ≡ 2
unfolding definitions
call13-gives = refl

-- call14: leaves 0 and n
abbrev call14 : Outcome
call14 = leaf call13.verifier (hex 2 0x0002)

call14-gives :
    call14.answer
    ≡ 4
unfolding definitions
call14-gives = refl

-- call15: leaves 0 and n−1
abbrev call15 : Outcome
call15 = leaf call14.verifier (hex 2 0x0001)

call15-gives :
    call15.answer
    ≡ 0
unfolding definitions
call15-gives = refl

-- call16: opening, message 5 a byte short
abbrev call16 : Judged
call16 = opening stand_in call15.verifier (hex 118 0x6c308defaf376a3b4cce4397f342b8b3caee451f78bf3e22c1bcaa5231ef91d4cb595d12863bea369c979a47f58fa57adb7916702e14675952b2c422672d9c0d1781578ac5d11a6815de4b1c6147620a57c2071088a44679f1ba3db4ae7c08321a1fa4af277e09d016f7e804c9ecbf2d55d9db4d55be) key work

call16-gives :
    (call16.answer ∷ []) ∷ call16.work ∷ []
    ≡ (2 ∷ []) ∷ replicate 32 0xa5 ∷ []
unfolding definitions
call16-gives = refl

-- call17: opening
abbrev call17 : Judged
call17 = opening stand_in call16.verifier m5 key work

call17-gives :
    (call17.answer ∷ []) ∷ call17.work ∷ []
    ≡ (0 ∷ []) ∷ hex 32 0x000000000000000000000000000000000000000000000000000000000000a5a5 ∷ []
unfolding definitions
call17-gives = refl

-- call18: opening once closed, message 5 a byte short
abbrev call18 : Judged
call18 = opening stand_in call17.verifier (hex 118 0x6c308defaf376a3b4cce4397f342b8b3caee451f78bf3e22c1bcaa5231ef91d4cb595d12863bea369c979a47f58fa57adb7916702e14675952b2c422672d9c0d1781578ac5d11a6815de4b1c6147620a57c2071088a44679f1ba3db4ae7c08321a1fa4af277e09d016f7e804c9ecbf2d55d9db4d55be) key work

call18-gives :
    (call18.answer ∷ []) ∷ call18.work ∷ []
    ≡ (12 ∷ []) ∷ replicate 32 0xa5 ∷ []
unfolding definitions
call18-gives = refl

-- call19: leaves 0 and n once closed
abbrev call19 : Outcome
call19 = leaf call18.verifier (hex 2 0x0002)

call19-gives :
    call19.answer
    ≡ 12
unfolding definitions
call19-gives = refl

-- call20: begin; the commitment of run 1 changed
abbrev call20 : Outcome
call20 = begin call19.verifier p 2 m1

call20-gives :
    call20.answer
    ≡ 0
unfolding definitions
call20-gives = refl

-- call21: points; the commitment of run 1 changed
abbrev call21 : Outcome
call21 = points call20.verifier m2

call21-gives :
    call21.answer
    ≡ 0
unfolding definitions
call21-gives = refl

-- call22: response; the commitment of run 1 changed
abbrev call22 : Outcome
call22 = response call21.verifier m3

call22-gives :
    call22.answer
    ≡ 0
unfolding definitions
call22-gives = refl

-- call23: leaf; the commitment of run 1 changed
abbrev call23 : Outcome
call23 = leaf call22.verifier (hex 2 0x0001)

call23-gives :
    call23.answer
    ≡ 0
unfolding definitions
call23-gives = refl

-- call24: opening; the commitment of run 1 changed
abbrev call24 : Judged
call24 = opening stand_in call23.verifier (hex 119 0x6c308defaf376a3b4cce4397f342b8b3caee451f78bf3e22c1bcaa5231ef91d4cb595d12863bea369c979a47f58fa57adb7916702e14675952b2c422672d9c0d1781578ac5d11a6815de4b1c6147620b57c2071088a44679f1ba3db4ae7c08321a1fa4af277e09d016f7e804c9ecbf2d55d9db4d55bec6) key work

call24-gives :
    (call24.answer ∷ []) ∷ call24.work ∷ []
    ≡ (5 ∷ []) ∷ hex 32 0x000000000000000000000000000000000000000000000000000000000000a5a5 ∷ []
unfolding definitions
call24-gives = refl

-- call25: begin; h' of run 0 changed, and the commitment of run 1
abbrev call25 : Outcome
call25 = begin call24.verifier p 2 m1

call25-gives :
    call25.answer
    ≡ 0
unfolding definitions
call25-gives = refl

-- call26: points; h' of run 0 changed, and the commitment of run 1
abbrev call26 : Outcome
call26 = points call25.verifier m2

call26-gives :
    call26.answer
    ≡ 0
unfolding definitions
call26-gives = refl

-- call27: response; h' of run 0 changed, and the commitment of run 1
abbrev call27 : Outcome
call27 = response call26.verifier (hex 64 0x2a4423564f2d10ee37cd0b5d1f4eea1631320a512f689370bed0c0b417c712beb8a754d5297ef57142da935d920041bd5e3c482db639ccb6d2ec874c42440c53)

call27-gives :
    call27.answer
    ≡ 0
unfolding definitions
call27-gives = refl

-- call28: leaf; h' of run 0 changed, and the commitment of run 1
abbrev call28 : Outcome
call28 = leaf call27.verifier (hex 2 0x0001)

call28-gives :
    call28.answer
    ≡ 0
unfolding definitions
call28-gives = refl

-- call29: opening; h' of run 0 changed, and the commitment of run 1
abbrev call29 : Judged
call29 = opening stand_in call28.verifier (hex 119 0x6c308defaf376a3b4cce4397f342b8b3caee451f78bf3e22c1bcaa5231ef91d4cb595d12863bea369c979a47f58fa57adb7916702e14675952b2c422672d9c0d1781578ac5d11a6815de4b1c6147620b57c2071088a44679f1ba3db4ae7c08321a1fa4af277e09d016f7e804c9ecbf2d55d9db4d55bec6) key work

call29-gives :
    (call29.answer ∷ []) ∷ call29.work ∷ []
    ≡ (7 ∷ []) ∷ hex 32 0x000000000000000000000000000000000000000000000000000000000000a5a5 ∷ []
unfolding definitions
call29-gives = refl

-- call30: begin
abbrev call30 : Outcome
call30 = begin call29.verifier p 2 m1

call30-gives :
    call30.answer
    ≡ 0
unfolding definitions
call30-gives = refl

-- call31: points
abbrev call31 : Outcome
call31 = points call30.verifier m2

call31-gives :
    call31.answer
    ≡ 0
unfolding definitions
call31-gives = refl

-- call32: response
abbrev call32 : Outcome
call32 = response call31.verifier m3

call32-gives :
    call32.answer
    ≡ 0
unfolding definitions
call32-gives = refl

-- call33: leaves 0 and n−1
abbrev call33 : Outcome
call33 = leaf call32.verifier (hex 2 0x0001)

call33-gives :
    call33.answer
    ≡ 0
unfolding definitions
call33-gives = refl

-- the session with leaf n in run 1, which no call made
abbrev damaged : Verifier
damaged = record {
  phase = call33.verifier.phase;
  parameters = call33.verifier.parameters;
  runs = call33.verifier.runs;
  message1 = call33.verifier.message1;
  message2 = call33.verifier.message2;
  message3 = call33.verifier.message3;
  leaves = hex 32 0x0002000000000000000000000000000000000000000000000000000000000000;
}

-- call34: points, the session damaged
abbrev call34 : Outcome
call34 = points damaged m2

call34-gives :
    call34.answer
    ≡ 12
unfolding definitions
call34-gives = refl

-- call35: response, the session damaged
abbrev call35 : Outcome
call35 = response call34.verifier m3

call35-gives :
    call35.answer
    ≡ 12
unfolding definitions
call35-gives = refl

-- call36: leaf, the session damaged
abbrev call36 : Outcome
call36 = leaf call35.verifier (hex 2 0x0001)

call36-gives :
    call36.answer
    ≡ 12
unfolding definitions
call36-gives = refl

-- call37: opening, the session damaged
abbrev call37 : Judged
call37 = opening stand_in call36.verifier m5 key work

call37-gives :
    (call37.answer ∷ []) ∷ call37.work ∷ []
    ≡ (12 ∷ []) ∷ replicate 32 0xa5 ∷ []
unfolding definitions
call37-gives = refl

-- call38: begin, the session damaged
abbrev call38 : Outcome
call38 = begin call37.verifier p 2 m1

call38-gives :
    call38.answer
    ≡ 0
unfolding definitions
call38-gives = refl
