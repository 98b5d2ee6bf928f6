-- What the messages of all runs of an exchange ask for.
--
-- Exchanging p n x seeds work             x at the front of 255 bytes, not too heavy; what an exchange of n runs starts from; a work area
-- Answering p n message2 matrix y out     message 2 and the key, and room for message 3
-- Opening p message2 is matrix out        message 2, a hidden leaf for each run, the matrix, and room for message 5
use Rattle.std.specs.Prelude.{◌≡◌, List, ℕ, ◌<◌, ◌≤◌, length, take, get_or}
use Rattle.parameters.specs.declared.Parameters.{Parameters}
use Rattle.parameters.specs.Limits.{Within}
use Rattle.layout.specs.Layout.{leaves, work_length, y_length, matrix_length}
use Rattle.layout.specs.Runs.{messages2_length, messages3_length, messages5_length}
use Rattle.layout.specs.Runs.Laws.{RunsWithin}
use Rattle.relation.specs.Key.{weight_of}

pub record Exchanging (p : Parameters) (n : ℕ) (x seeds work : List ℕ) : Type 0 where
  pub within : Within p
  pub runs : RunsWithin n
  pub light : weight_of (take p.m x) ≤ p.w
  pub x-is : length x ≡ 255
  pub seeds-are : length seeds ≡ 48
  pub work-fits : work_length p ≤ length work

pub record Answering (p : Parameters) (n : ℕ) (message2 matrix y out : List ℕ) : Type 0 where
  pub message2-is : length message2 ≡ messages2_length p n
  pub matrix-is : length matrix ≡ matrix_length p
  pub y-is : length y ≡ y_length p
  pub out-is : length out ≡ messages3_length n

pub record Opening (p : Parameters) (message2 is matrix out : List ℕ) : Type 0 where
  pub message2-is : length message2 ≡ messages2_length p (length is)
  pub below : (e : ℕ) → e < length is → get_or is e 0 < leaves p
  pub matrix-is : length matrix ≡ matrix_length p
  pub out-is : length out ≡ messages5_length p is
