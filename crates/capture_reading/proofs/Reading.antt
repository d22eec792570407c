-- What reading a capture finds.
use Rattle.std.proofs.Common.{◌≡◌, ◌≢◌, ◌↔◌, ℕ, ◌/◌, ◌%◌, ◌<◌, List, length, Result, Err, refl}
use Rattle.std.specs.List.{All}
use Rattle.std.proofs.lemmas.List.Elements.{recursion_from_All}
use Rattle.quad_lanes.specs.Capture.{capture}
use Rattle.quad_lanes.specs.Pairs.{quads_of, firsts}
use Rattle.quad_lanes.specs.declared.pairs.PairFault.{PairFault}
use Rattle.quad_lanes.specs.declared.pairs.PairFault.TheVariants.{Length, Memory as NoPairMemory}
use Rattle.self_id.specs.declared.standard.Standard.{Standard}
use Rattle.capture_reading.specs.Capture.{IsCaptureOf, CaptureRefused}
use Rattle.capture_reading.specs.Stop.{of_pairs, IfFault}
use Rattle.quad_lanes.proofs.Lemmas.{fit_firsts}

-- bytes that are the capture of the firsts of their pairs
pub is_capture : (bytes list : List ℕ) → All (λ b. b < 256) bytes → list ≡ firsts (quads_of bytes) →
    bytes ≡ capture (firsts (quads_of bytes)) → IsCaptureOf list bytes
is_capture bytes list fit is captured = rw is (record { fit = fit_firsts bytes (recursion_from_All (λ b. b < 256) bytes fit); bytes_are = captured })

pub is_pair_fault : {A : Type 0} (B : Type 0) (standard : Standard) (bytes : List ℕ) (fault : PairFault) → ((n : ℕ) → (◌≡◌ {A = Result A PairFault} (Err fault) (Err (Length n))) ↔ ((length bytes % 8 ≢ 0) × (n ≡ length bytes / 8))) → IfFault {A = B} (Err (of_pairs fault)) (λ f. CaptureRefused standard bytes f)
is_pair_fault B standard bytes (Length n) cut = (cut n).0 refl
is_pair_fault B standard bytes (NoPairMemory e) cut = tt
