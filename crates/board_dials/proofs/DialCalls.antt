-- What the steps of a call make of a view together: no maximum is due any more.
use Rattle.std.proofs.Common.{◌≡◌, ℕ, refl}
use Rattle.board_types.specs.Views.{DialsView}
use Rattle.board_types.specs.Plays.{one_counted}
use Rattle.board_dials.specs.DialPlays.{one_uncounted, bytes_counted, bytes_uncounted, bytes_shortened, length_given, length_listed, most_mapped_raised, most_bytes_raised, mapping_noted, mapping_ended, mapping_lengthened, mapping_shortened}

-- a mapping is noted, where the count became n and the bytes m
pub noted : (v : DialsView) (n m k : ℕ) → most_bytes_raised (bytes_counted (most_mapped_raised (one_counted v n)) m k) ≡ mapping_noted v k
noted v n m k = refl

-- it ends
pub ended : (v : DialsView) (k : ℕ) → bytes_uncounted (one_uncounted v) k ≡ mapping_ended v k
ended v k = refl

-- it has another length
pub lengthened : (v : DialsView) (m old more : ℕ) → length_given (most_bytes_raised (bytes_counted v m more)) old ≡ mapping_lengthened v old more
lengthened v m old more = refl

pub shortened : (v : DialsView) (m less left : ℕ) → length_listed (most_bytes_raised (bytes_shortened v m less)) left ≡ mapping_shortened v less left
shortened v m less left = refl
