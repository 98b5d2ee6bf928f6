-- The verifier's points where points of a run are equal, each call made on the session that the call before it left;
-- the first on a fresh one.
--
-- p, m1                parameters, and message 1 of an honest exchange
-- ends                 a message 2 in which points 0 and 2 of run 1 are equal
-- call1, call2, ..     the calls, with all that they are lent
-- call1-gives, ..      the number that the call answers
use Rattle.std.specs.Prelude.{◌≡◌, refl, List, ℕ}
use Rattle.parameters.specs.declared.Parameters.{Parameters}
use Rattle.test_standin.specs.StandIn.{hex}
use Rattle.calls.specs.Verifier.{Outcome, fresh, begin, points}
use Rattle.test_calls.specs.Definitions.{definitions}

abbrev p : Parameters
p = record { m = 2; k = 1; w = 1; axes = 1; t = 3 }

abbrev m1 : List ℕ
m1 = hex 96 0x2252e62b130ea7aa42e6da8ab8996b1143bfb6cee56c6544714288546b13c62f28c1958c1c28a33280a7cbe7e3239f2dcbc78bfdb1571b02d3199db5e23a4ff1fd9df847e57e72d4c964d6997b4875dbc18f14293319f806397ca4921a05443c

abbrev ends : List ℕ
ends = hex 48 0xcbda11f6fe6169eb2c4e30e6f8afc735f82fcd9dff30e9ba5f471d78acc8d2015f471d785be1c940ec82f60f7e56e88a

-- call1: points 0 and 2 of run 1 equal, before the first begin
abbrev call1 : Outcome
call1 = points fresh ends

call1-gives :
    call1.answer
    ≡ 11
unfolding definitions
call1-gives = refl

-- call2: begin
abbrev call2 : Outcome
call2 = begin call1.verifier p 2 m1

call2-gives :
    call2.answer
    ≡ 0
unfolding definitions
call2-gives = refl

-- call3: points 0 and 2 of run 1 equal, message 2 a byte short
abbrev call3 : Outcome
call3 = points call2.verifier (hex 47 0xcbda11f6fe6169eb2c4e30e6f8afc735f82fcd9dff30e9ba5f471d78acc8d2015f471d785be1c940ec82f60f7e56e8)

call3-gives :
    call3.answer
    ≡ 2
unfolding definitions
call3-gives = refl

-- call4: points 0 and 2 of run 1 equal
abbrev call4 : Outcome
call4 = points call3.verifier ends

call4-gives :
    call4.answer
    ≡ 14
unfolding definitions
call4-gives = refl

-- call5: points 0 and 1 of run 0 equal
abbrev call5 : Outcome
call5 = points call4.verifier (hex 48 0xcbda11f6cbda11f62c4e30e6f8afc735f82fcd9dff30e9ba5f471d78acc8d2012b7075075be1c940ec82f60f7e56e88a)

call5-gives :
    call5.answer
    ≡ 14
unfolding definitions
call5-gives = refl

-- call6: points 1 and 2 of run 1 equal
abbrev call6 : Outcome
call6 = points call5.verifier (hex 48 0xcbda11f6fe6169eb2c4e30e6f8afc735f82fcd9dff30e9ba5f471d78acc8d201acc8d2015be1c940ec82f60f7e56e88a)

call6-gives :
    call6.answer
    ≡ 14
unfolding definitions
call6-gives = refl

-- call7: points apart in one of the first bytes, runs and multipliers alike
abbrev call7 : Outcome
call7 = points call6.verifier (hex 48 0xcbda11f6cada11f6cbdb11f6cbda11f6cbda11f6cbda11f6cbda11f6cada11f6cbdb11f6cbda11f6cbda11f6cbda11f6)

call7-gives :
    call7.answer
    ≡ 0
unfolding definitions
call7-gives = refl

-- call8: points 0 and 2 of run 1 equal, once they are not due
abbrev call8 : Outcome
call8 = points call7.verifier ends

call8-gives :
    call8.answer
    ≡ 11
unfolding definitions
call8-gives = refl

-- call9: begin
abbrev call9 : Outcome
call9 = begin call8.verifier p 2 m1

call9-gives :
    call9.answer
    ≡ 0
unfolding definitions
call9-gives = refl

-- call10: points apart in one of the last bytes, runs and multipliers alike
abbrev call10 : Outcome
call10 = points call9.verifier (hex 48 0xcbda11f6cbda10f6cbda11f7cbda11f6cbda11f6cbda11f6cbda11f6cbda10f6cbda11f7cbda11f6cbda11f6cbda11f6)

call10-gives :
    call10.answer
    ≡ 0
unfolding definitions
call10-gives = refl
