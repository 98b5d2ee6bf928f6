-- The calls since the last begin.
--
-- counted m        the call was carried out, or was an opening that was judged
-- since h          the calls counted since the last begin carried out, that begin included, the latest first; none where there is no such begin
use Rattle.std.specs.Prelude.{Bool, ◌&&◌, ◌||◌, cond, List, [], ◌∷◌}
use Rattle.calls.specs.Held.{is_some}
use Rattle.calls.specs.Verifier.History.{Call, Made, carried_out, begun, opened, last_begin}

unfoldable pub counted : Made → Bool
counted m = carried_out m || opened m

unfoldable pub since : List Made → List Call
since [] = []
since (m ∷ h) = cond (is_some (begun m)) (m.call ∷ []) (cond (is_some (last_begin h) && counted m) (m.call ∷ since h) (since h))
