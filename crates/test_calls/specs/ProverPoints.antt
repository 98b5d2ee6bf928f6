-- The prover's points where points of a run are equal, each call made on the session that the call before it left; the
-- first on a fresh one.
--
-- p, key, x_a, salt, root    parameters, matrix and y, x_A, salt and root
-- ends                       a message 2 in which points 0 and 2 of run 1 are equal
-- work                       a work area, longer than its named length
-- call1, call2, ..           the calls, with all that they are lent
-- call1-gives, ..            the number that the call answers; of a refused one, then output and work area
use Rattle.std.specs.Prelude.{◌≡◌, refl, List, [], ◌∷◌, ℕ, replicate}
use Rattle.parameters.specs.declared.Parameters.{Parameters}
use Rattle.exchange.specs.Values.{Key}
use Rattle.test_standin.specs.StandIn.{hex, stand_in}
use Rattle.calls.specs.Prover.{Outcome, fresh, begin, points}
use Rattle.test_calls.specs.Definitions.{definitions}

abbrev p : Parameters
p = record { m = 2; k = 1; w = 1; axes = 1; t = 3 }

abbrev key : Key
key = record { matrix = hex 1 0x02; y = hex 1 0x19 }

abbrev x_a : List ℕ
x_a = hex 1 0x00

abbrev salt : List ℕ
salt = hex 32 0x2252e62b130ea7aa42e6da8ab8996b1143bfb6cee56c6544714288546b13c62f

abbrev root : List ℕ
root = hex 16 0xd6362ff6edc60d68894992c3d6ac2a30

abbrev ends : List ℕ
ends = hex 48 0xcbda11f6fe6169eb2c4e30e6f8afc735f82fcd9dff30e9ba5f471d78acc8d2015f471d785be1c940ec82f60f7e56e88a

abbrev work : List ℕ
work = replicate 80 0xa5

-- call1: points 0 and 2 of run 1 equal, before the first begin
abbrev call1 : Outcome
call1 = points stand_in fresh ends key work (replicate 64 0x5a)

call1-gives :
    (call1.answer ∷ []) ∷ call1.out ∷ call1.work ∷ []
    ≡ (11 ∷ []) ∷ replicate 64 0x5a ∷ replicate 80 0xa5 ∷ []
unfolding definitions
call1-gives = refl

-- call2: begin
abbrev call2 : Outcome
call2 = begin stand_in call1.prover p 2 x_a salt root key work (replicate 96 0x5a)

call2-gives :
    call2.answer
    ≡ 0
unfolding definitions
call2-gives = refl

-- call3: points 0 and 2 of run 1 equal, the work area a byte short
abbrev call3 : Outcome
call3 = points stand_in call2.prover ends key (replicate 77 0xa5) (replicate 64 0x5a)

call3-gives :
    (call3.answer ∷ []) ∷ call3.out ∷ call3.work ∷ []
    ≡ (2 ∷ []) ∷ replicate 64 0x5a ∷ replicate 77 0xa5 ∷ []
unfolding definitions
call3-gives = refl

-- call4: points 0 and 2 of run 1 equal
abbrev call4 : Outcome
call4 = points stand_in call3.prover ends key work (replicate 64 0x5a)

call4-gives :
    (call4.answer ∷ []) ∷ call4.out ∷ call4.work ∷ []
    ≡ (14 ∷ []) ∷ replicate 64 0x5a ∷ replicate 80 0xa5 ∷ []
unfolding definitions
call4-gives = refl

-- call5: points 0 and 1 of run 0 equal
abbrev call5 : Outcome
call5 = points stand_in call4.prover (hex 48 0xcbda11f6cbda11f62c4e30e6f8afc735f82fcd9dff30e9ba5f471d78acc8d2012b7075075be1c940ec82f60f7e56e88a) key work (replicate 64 0x5a)

call5-gives :
    (call5.answer ∷ []) ∷ call5.out ∷ call5.work ∷ []
    ≡ (14 ∷ []) ∷ replicate 64 0x5a ∷ replicate 80 0xa5 ∷ []
unfolding definitions
call5-gives = refl

-- call6: points 1 and 2 of run 1 equal
abbrev call6 : Outcome
call6 = points stand_in call5.prover (hex 48 0xcbda11f6fe6169eb2c4e30e6f8afc735f82fcd9dff30e9ba5f471d78acc8d201acc8d2015be1c940ec82f60f7e56e88a) key work (replicate 64 0x5a)

call6-gives :
    (call6.answer ∷ []) ∷ call6.out ∷ call6.work ∷ []
    ≡ (14 ∷ []) ∷ replicate 64 0x5a ∷ replicate 80 0xa5 ∷ []
unfolding definitions
call6-gives = refl

-- call7: points apart in one byte, runs and multipliers alike
abbrev call7 : Outcome
call7 = points stand_in call6.prover (hex 48 0xcbda11f6cada11f6cbdb11f6cbda11f6cbda11f6cbda11f6cbda11f6cada11f6cbdb11f6cbda11f6cbda11f6cbda11f6) key work (replicate 64 0x5a)

call7-gives :
    call7.answer
    ≡ 0
unfolding definitions
call7-gives = refl

-- call8: points 0 and 2 of run 1 equal, once they are not due
abbrev call8 : Outcome
call8 = points stand_in call7.prover ends key work (replicate 64 0x5a)

call8-gives :
    (call8.answer ∷ []) ∷ call8.out ∷ call8.work ∷ []
    ≡ (11 ∷ []) ∷ replicate 64 0x5a ∷ replicate 80 0xa5 ∷ []
unfolding definitions
call8-gives = refl
