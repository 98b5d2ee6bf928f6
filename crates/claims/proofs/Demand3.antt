-- Demand 3 over SHAKE256.
--
-- demand-3      it holds
use Rattle.std.specs.Prelude.{List, ℕ}
use Rattle.shake256.specs.Fips.{SHAKE256}
use Rattle.shake256.proofs.Laws.{length-SHAKE256, SHAKE256-byte}
use Rattle.polynomial.specs.Bytes.{Bytes}
use Rattle.polynomial.specs.Bytes.Laws.{bytes-from}
use Rattle.claims.proofs.Extraction.Theorem.{extracts}
use Rattle.claims.proofs.Weight.Theorem.{weight-claim}
use Rattle.claims.specs.Demand3.{Demand3}

bytes-SHAKE256 : (s : List ℕ) (n : ℕ) → Bytes (SHAKE256 s n)
bytes-SHAKE256 s n = bytes-from (SHAKE256 s n) (SHAKE256-byte s n)

pub demand-3 : Demand3
demand-3 = record {
  extraction = λ p runs key t t' c work out wl ol. extracts SHAKE256 length-SHAKE256 p runs key t t' work out c wl ol;
  weight = λ p runs key e salt h qs l rs within y-bytes sent m.
      weight-claim SHAKE256 length-SHAKE256 p runs key e salt h qs l rs within m bytes-SHAKE256 y-bytes sent;
}
