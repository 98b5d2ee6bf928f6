-- The prover's calls, each made on the session that the call before it left; the first on a fresh one.
--
-- p, key, x_a, salt, root, m2    parameters, matrix and y, x_A, salt, root and message 2
-- work                           a work area, longer than its named length
-- call1, call2, ..               the calls, with all that they are lent
-- damaged                        the session held at the end, with another m
-- call1-gives, ..                the number that the call answers, then output and work area
use Rattle.std.specs.Prelude.{◌≡◌, refl, List, [], ◌∷◌, ℕ, replicate}
use Rattle.parameters.specs.declared.Parameters.{Parameters}
use Rattle.exchange.specs.Values.{Key}
use Rattle.test_standin.specs.StandIn.{hex, stand_in}
use Rattle.calls.specs.Prover.{Prover, Outcome, fresh, begin, points, leaf}
use Rattle.test_calls.specs.Definitions.{definitions}

abbrev p : Parameters
p = record { m = 2; k = 1; w = 1; axes = 1; t = 1 }

abbrev key : Key
key = record { matrix = hex 1 0x46; y = hex 1 0x40 }

abbrev x_a : List ℕ
x_a = hex 1 0x09

abbrev salt : List ℕ
salt = hex 32 0x14482009be253f8414bddda8601de65fbfb5a0c47106b6e449a3b686eca51465

abbrev root : List ℕ
root = hex 16 0x6034e312e6e8537b4b5cfd0bd89b3ce6

abbrev m2 : List ℕ
m2 = hex 16 0x90277094505bfe6161d4d9b7aa7b704e

abbrev work : List ℕ
work = replicate 32 0xa5

-- call1: points before the first begin, the output a byte long
abbrev call1 : Outcome
call1 = points stand_in fresh m2 key work (replicate 65 0x5a)

call1-gives :
    (call1.answer ∷ []) ∷ call1.out ∷ call1.work ∷ []
    ≡ (11 ∷ []) ∷ replicate 65 0x5a ∷ replicate 32 0xa5 ∷ []
unfolding definitions
call1-gives = refl

-- call2: begin with k = m
abbrev call2 : Outcome
call2 = begin stand_in call1.prover (record { m = 2; k = 2; w = 1; axes = 1; t = 1 }) 2 x_a salt root key work (replicate 96 0x5a)

call2-gives :
    (call2.answer ∷ []) ∷ call2.out ∷ call2.work ∷ []
    ≡ (1 ∷ []) ∷ replicate 96 0x5a ∷ replicate 32 0xa5 ∷ []
unfolding definitions
call2-gives = refl

-- call3: begin with 33 runs, x overweight
abbrev call3 : Outcome
call3 = begin stand_in call2.prover p 33 (hex 1 0x08) salt root key work (replicate 96 0x5a)

call3-gives :
    (call3.answer ∷ []) ∷ call3.out ∷ call3.work ∷ []
    ≡ (1 ∷ []) ∷ replicate 96 0x5a ∷ replicate 32 0xa5 ∷ []
unfolding definitions
call3-gives = refl

-- call4: begin with no run
abbrev call4 : Outcome
call4 = begin stand_in call3.prover p 0 x_a salt root key work (replicate 96 0x5a)

call4-gives :
    (call4.answer ∷ []) ∷ call4.out ∷ call4.work ∷ []
    ≡ (1 ∷ []) ∷ replicate 96 0x5a ∷ replicate 32 0xa5 ∷ []
unfolding definitions
call4-gives = refl

-- call5: begin with three runs, the output that of two
abbrev call5 : Outcome
call5 = begin stand_in call4.prover p 3 x_a salt root key work (replicate 96 0x5a)

call5-gives :
    (call5.answer ∷ []) ∷ call5.out ∷ call5.work ∷ []
    ≡ (2 ∷ []) ∷ replicate 96 0x5a ∷ replicate 32 0xa5 ∷ []
unfolding definitions
call5-gives = refl

-- call6: begin, x overweight, the work area a byte short
abbrev call6 : Outcome
call6 = begin stand_in call5.prover p 2 (hex 1 0x08) salt root key (replicate 29 0xa5) (replicate 96 0x5a)

call6-gives :
    (call6.answer ∷ []) ∷ call6.out ∷ call6.work ∷ []
    ≡ (2 ∷ []) ∷ replicate 96 0x5a ∷ replicate 29 0xa5 ∷ []
unfolding definitions
call6-gives = refl

-- call7: begin
abbrev call7 : Outcome
call7 = begin stand_in call6.prover p 2 x_a salt root key work (replicate 96 0x5a)

call7-gives :
    (call7.answer ∷ []) ∷ call7.out ∷ call7.work ∷ []
    ≡ (0 ∷ []) ∷ hex 96 0x14482009be253f8414bddda8601de65fbfb5a0c47106b6e449a3b686eca5146540d670f53eaba517de134e64a30246ccf55c0fb28ccdcf0bc0ab0e62e88dfd8a0e10b3daf574f95e0ca15273ae65d72e8d8b2377f2695f95562f7c5352ee76a7 ∷ hex 32 0x000000000000000000000000000000000000000000000000000000000000a5a5 ∷ []
unfolding definitions
call7-gives = refl

-- call8: begin with the salt and root held, x overweight
abbrev call8 : Outcome
call8 = begin stand_in call7.prover p 2 (hex 1 0x08) salt root key work (replicate 96 0x5a)

call8-gives :
    (call8.answer ∷ []) ∷ call8.out ∷ call8.work ∷ []
    ≡ (3 ∷ []) ∷ replicate 96 0x5a ∷ replicate 32 0xa5 ∷ []
unfolding definitions
call8-gives = refl

-- call9: begin with the salt and root held
abbrev call9 : Outcome
call9 = begin stand_in call8.prover p 2 x_a salt root key work (replicate 96 0x5a)

call9-gives :
    (call9.answer ∷ []) ∷ call9.out ∷ call9.work ∷ []
    ≡ (13 ∷ []) ∷ replicate 96 0x5a ∷ replicate 32 0xa5 ∷ []
unfolding definitions
call9-gives = refl

-- call10: leaf before points, the output a byte long
abbrev call10 : Outcome
call10 = leaf stand_in call9.prover (hex 2 0x0000) key work (replicate 127 0x5a)

call10-gives :
    (call10.answer ∷ []) ∷ call10.out ∷ call10.work ∷ []
    ≡ (11 ∷ []) ∷ replicate 127 0x5a ∷ replicate 32 0xa5 ∷ []
unfolding definitions
call10-gives = refl

-- call11: points, the output a byte long
abbrev call11 : Outcome
call11 = points stand_in call10.prover m2 key work (replicate 65 0x5a)

call11-gives :
    (call11.answer ∷ []) ∷ call11.out ∷ call11.work ∷ []
    ≡ (2 ∷ []) ∷ replicate 65 0x5a ∷ replicate 32 0xa5 ∷ []
unfolding definitions
call11-gives = refl

-- call12: points
abbrev call12 : Outcome
call12 = points stand_in call11.prover m2 key work (replicate 64 0x5a)

call12-gives :
    (call12.answer ∷ []) ∷ call12.out ∷ call12.work ∷ []
    ≡ (0 ∷ []) ∷ hex 64 0x2a4423564f2d10ee37cd0b5d1f4eea1631320a512f689370bed0c0b417c7123eb8a754d5297ef57142da935d920041bd5e3c482db639ccb6d2ec874c42440c53 ∷ hex 32 0x000000000000000000000000000000000000000000000000000000000000a5a5 ∷ []
unfolding definitions
call12-gives = refl

-- call13: points again
abbrev call13 : Outcome
call13 = points stand_in call12.prover m2 key work (replicate 64 0x5a)

call13-gives :
    (call13.answer ∷ []) ∷ call13.out ∷ call13.work ∷ []
    ≡ (11 ∷ []) ∷ replicate 64 0x5a ∷ replicate 32 0xa5 ∷ []
unfolding definitions
call13-gives = refl

-- call14: leaf of one leaf
abbrev call14 : Outcome
call14 = leaf stand_in call13.prover (hex 1 0x02) key work (replicate 63 0x5a)

call14-gives :
    (call14.answer ∷ []) ∷ call14.out ∷ call14.work ∷ []
    ≡ (2 ∷ []) ∷ replicate 63 0x5a ∷ replicate 32 0xa5 ∷ []
unfolding definitions
call14-gives = refl

-- call15: leaf of three leaves
abbrev call15 : Outcome
call15 = leaf stand_in call14.prover (hex 3 0x000002) key work (replicate 189 0x5a)

call15-gives :
    (call15.answer ∷ []) ∷ call15.out ∷ call15.work ∷ []
    ≡ (2 ∷ []) ∷ replicate 189 0x5a ∷ replicate 32 0xa5 ∷ []
unfolding definitions
call15-gives = refl

-- call16: leaves 0 and n, the output as short as for leaf n−1
abbrev call16 : Outcome
call16 = leaf stand_in call15.prover (hex 2 0x0002) key work (replicate 119 0x5a)

call16-gives :
    (call16.answer ∷ []) ∷ call16.out ∷ call16.work ∷ []
    ≡ (2 ∷ []) ∷ replicate 119 0x5a ∷ replicate 32 0xa5 ∷ []
unfolding definitions
call16-gives = refl

-- call17: leaves 0 and n
abbrev call17 : Outcome
call17 = leaf stand_in call16.prover (hex 2 0x0002) key work (replicate 126 0x5a)

call17-gives :
    (call17.answer ∷ []) ∷ call17.out ∷ call17.work ∷ []
    ≡ (4 ∷ []) ∷ replicate 126 0x5a ∷ replicate 32 0xa5 ∷ []
unfolding definitions
call17-gives = refl

-- call18: leaves n and n−1
abbrev call18 : Outcome
call18 = leaf stand_in call17.prover (hex 2 0x0201) key work (replicate 119 0x5a)

call18-gives :
    (call18.answer ∷ []) ∷ call18.out ∷ call18.work ∷ []
    ≡ (4 ∷ []) ∷ replicate 119 0x5a ∷ replicate 32 0xa5 ∷ []
unfolding definitions
call18-gives = refl

-- call19: leaves 0 and n−1
abbrev call19 : Outcome
call19 = leaf stand_in call18.prover (hex 2 0x0001) key work (replicate 119 0x5a)

call19-gives :
    (call19.answer ∷ []) ∷ call19.out ∷ call19.work ∷ []
    ≡ (0 ∷ []) ∷ hex 119 0x6c308defaf376a3b4cce4397f342b8b3caee451f78bf3e22c1bcaa5231ef91d4cb595d12863bea369c979a47f58fa57adb7916702e14675952b2c422672d9c0d1781578ac5d11a6815de4b1c6147620a57c2071088a44679f1ba3db4ae7c08321a1fa4af277e09d016f7e804c9ecbf2d55d9db4d55bec6 ∷ hex 32 0x000000000000000000000000000000000000000000000000000000000000a5a5 ∷ []
unfolding definitions
call19-gives = refl

-- call20: leaves n and 0 once closed
abbrev call20 : Outcome
call20 = leaf stand_in call19.prover (hex 2 0x0200) key work (replicate 126 0x5a)

call20-gives :
    (call20.answer ∷ []) ∷ call20.out ∷ call20.work ∷ []
    ≡ (12 ∷ []) ∷ replicate 126 0x5a ∷ replicate 32 0xa5 ∷ []
unfolding definitions
call20-gives = refl

-- call21: points once closed
abbrev call21 : Outcome
call21 = points stand_in call20.prover m2 key work (replicate 64 0x5a)

call21-gives :
    (call21.answer ∷ []) ∷ call21.out ∷ call21.work ∷ []
    ≡ (12 ∷ []) ∷ replicate 64 0x5a ∷ replicate 32 0xa5 ∷ []
unfolding definitions
call21-gives = refl

-- call22: begin with the salt and root held, once closed
abbrev call22 : Outcome
call22 = begin stand_in call21.prover p 2 x_a salt root key work (replicate 96 0x5a)

call22-gives :
    (call22.answer ∷ []) ∷ call22.out ∷ call22.work ∷ []
    ≡ (13 ∷ []) ∷ replicate 96 0x5a ∷ replicate 32 0xa5 ∷ []
unfolding definitions
call22-gives = refl

-- call23: begin with another root
abbrev call23 : Outcome
call23 = begin stand_in call22.prover p 2 x_a salt (hex 16 0x6134e312e6e8537b4b5cfd0bd89b3ce6) key work (replicate 96 0x5a)

call23-gives :
    (call23.answer ∷ []) ∷ call23.out ∷ call23.work ∷ []
    ≡ (0 ∷ []) ∷ hex 96 0x14482009be253f8414bddda8601de65fbfb5a0c47106b6e449a3b686eca514650e16188d48701c768eca5f7b64bde179c541d1ecfc220c8eceef473a7de865b1954a52699e3a9276b78bd9cad2ead91d68f9aaaeb44a71875bd6db3b1ce53df5 ∷ hex 32 0x000000000000000000000000000000000000000000000000000000000000a5a5 ∷ []
unfolding definitions
call23-gives = refl

-- the session with m 1, which no call made
abbrev damaged : Prover
damaged = record {
  phase = call23.prover.phase;
  parameters = record { m = 1; k = 1; w = 1; axes = 1; t = 1 };
  runs = call23.prover.runs;
  x = call23.prover.x;
  salt = call23.prover.salt;
  root = call23.prover.root;
  message2 = call23.prover.message2;
}

-- call24: points, the session damaged
abbrev call24 : Outcome
call24 = points stand_in damaged m2 key work (replicate 64 0x5a)

call24-gives :
    (call24.answer ∷ []) ∷ call24.out ∷ call24.work ∷ []
    ≡ (12 ∷ []) ∷ replicate 64 0x5a ∷ replicate 32 0xa5 ∷ []
unfolding definitions
call24-gives = refl

-- call25: leaves 0 and 0, the session damaged
abbrev call25 : Outcome
call25 = leaf stand_in call24.prover (hex 2 0x0000) key work (replicate 126 0x5a)

call25-gives :
    (call25.answer ∷ []) ∷ call25.out ∷ call25.work ∷ []
    ≡ (12 ∷ []) ∷ replicate 126 0x5a ∷ replicate 32 0xa5 ∷ []
unfolding definitions
call25-gives = refl

-- call26: begin with the salt and root held, the session damaged
abbrev call26 : Outcome
call26 = begin stand_in call25.prover p 2 x_a salt (hex 16 0x6134e312e6e8537b4b5cfd0bd89b3ce6) key work (replicate 96 0x5a)

call26-gives :
    (call26.answer ∷ []) ∷ call26.out ∷ call26.work ∷ []
    ≡ (13 ∷ []) ∷ replicate 96 0x5a ∷ replicate 32 0xa5 ∷ []
unfolding definitions
call26-gives = refl

-- call27: begin with another root, the session damaged
abbrev call27 : Outcome
call27 = begin stand_in call26.prover p 2 x_a salt root key work (replicate 96 0x5a)

call27-gives :
    (call27.answer ∷ []) ∷ call27.out ∷ call27.work ∷ []
    ≡ (0 ∷ []) ∷ hex 96 0x14482009be253f8414bddda8601de65fbfb5a0c47106b6e449a3b686eca5146540d670f53eaba517de134e64a30246ccf55c0fb28ccdcf0bc0ab0e62e88dfd8a0e10b3daf574f95e0ca15273ae65d72e8d8b2377f2695f95562f7c5352ee76a7 ∷ hex 32 0x000000000000000000000000000000000000000000000000000000000000a5a5 ∷ []
unfolding definitions
call27-gives = refl
