-- The cut of main's top leaves the arena sound.
use Rattle.std.proofs.Common.{◌≡◌, ℕ, ◌-◌, ◌<◌, ◌&&◌, Bool, true, false, cond, refl, sym, ap, ◌∙◌, subst, arith}
use Rattle.std.specs.Prelude.{nat_eq, nat_lt}
use Rattle.std.proofs.lemmas.Bool.{and_parts, eqb-true, ltb-true}
use Rattle.chunk_tags.specs.Pages.{page_down_of}
use Rattle.arena_rules.specs.Moves.{top_end, top_size}
use Rattle.arena_rules.specs.PlainArena.{Plain, IsSound, is_main}
use Rattle.arena_rules.specs.Trim.{main_cut, CanCutMain}
use Rattle.consolidate_trim.proofs.Trims.{cut_kept}
use Rattle.page_trim.specs.Trimming.{bytes_back, cut_back}

back_can : (pad : ℕ) (a : Plain) → 0 < bytes_back pad a → CanCutMain a (bytes_back pad a)
unfolding bytes_back
back_can pad a some =
    let bytes : ℕ = page_down_of (top_size a - 33 - pad) in
    let cases : (b : Bool) → is_main a && nat_eq (top_end a) a.break_at ≡ b → 0 < cond b bytes 0 → CanCutMain a (cond b bytes 0) = elim [
      | true ↦ λ e h. record { at_break = eqb-true (top_end a) a.break_at (and_parts (is_main a) (nat_eq (top_end a) a.break_at) e).1; left = omega arith; whole = omega arith }
      | false ↦ λ e h. absurd (omega arith)
    ] in
    cases (is_main a && nat_eq (top_end a) a.break_at) refl some

pub cut_sound : (pad : ℕ) (a : Plain) → IsSound a → IsSound (cut_back (bytes_back pad a) a)
cut_sound pad a s =
    let bytes : ℕ = bytes_back pad a in
    let cases : (b : Bool) → nat_lt 0 bytes ≡ b → IsSound (cond b (main_cut a bytes) a) = elim [
      | true ↦ λ some. (cut_kept a bytes s (back_can pad a (ltb-true 0 bytes some))).sound
      | false ↦ λ none. s
    ] in
    cases (nat_lt 0 bytes) refl

-- so does one by as many bytes
pub sound_as_cut : (pad bytes : ℕ) (a b : Plain) → IsSound a → bytes ≡ bytes_back pad a → b ≡ cut_back bytes a → IsSound b
sound_as_cut pad bytes a b s is cut = subst IsSound (sym (cut ∙ ap (λ n. cut_back n a) is)) (cut_sound pad a s)
