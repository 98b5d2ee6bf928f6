-- The runs of an exchange.
--
-- salt, root      of the exchange
-- run0-is, ..     prefix and root of the run of this number
use Rattle.std.specs.Prelude.{◌≡◌, refl, List, [], ◌∷◌, ℕ}
use Rattle.test_standin.specs.StandIn.{hex, stand_in}
use Rattle.test_standin.specs.Definitions.{definitions}
use Rattle.test_exchange.specs.Definitions.{run_lists}

abbrev salt : List ℕ
salt = hex 32 0x14482009be253f8414bddda8601de65fbfb5a0c47106b6e449a3b686eca51465

abbrev root : List ℕ
root = hex 16 0x6034e312e6e8537b4b5cfd0bd89b3ce6

run0-is :
    run_lists stand_in salt root 0
    ≡ hex 33 0x14482009be253f8414bddda8601de65fbfb5a0c47106b6e449a3b686eca5146500 ∷ hex 16 0x164c247deb9bf5401579d7c7cb19d382 ∷ []
unfolding definitions
run0-is = refl

run1-is :
    run_lists stand_in salt root 1
    ≡ hex 33 0x14482009be253f8414bddda8601de65fbfb5a0c47106b6e449a3b686eca5146501 ∷ hex 16 0x47abe2186882d46087cc8dcdb45fa5b0 ∷ []
unfolding definitions
run1-is = refl

run2-is :
    run_lists stand_in salt root 2
    ≡ hex 33 0x14482009be253f8414bddda8601de65fbfb5a0c47106b6e449a3b686eca5146502 ∷ hex 16 0x77790eb47669b481fa1fd5d20b380970 ∷ []
unfolding definitions
run2-is = refl

run31-is :
    run_lists stand_in salt root 31
    ≡ hex 33 0x14482009be253f8414bddda8601de65fbfb5a0c47106b6e449a3b686eca514651f ∷ hex 16 0xf82a456ffe42da121ef0e02aee7117a4 ∷ []
unfolding definitions
run31-is = refl
