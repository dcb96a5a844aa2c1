-- The lines of a trace as their own bytes.
use Rattle.std.proofs.Common.{◌≡◌, ◌==◌, ℕ, List, [], ◌∷◌, sym, ap, ◌∙◌}
use Rattle.std.specs.List.{slice_split}
use Rattle.trace_text.specs.declared.trace.Line.{Line}
use Rattle.trace_text.specs.Grammar.{header}
use Rattle.trace_text.specs.Spelling.{spelling_of, spelling, texts_of, Allows}
use Rattle.trace_text.proofs.RoundTrip.{spelling_split, body_cons}

abbrev parts_of : List ℕ → List (List ℕ)
parts_of text = slice_split (λ b. b == 10) text

same_others : (a b : List ℕ) (more others : List (List ℕ)) → a ∷ more ≡ b ∷ others → more ≡ others
same_others a b more others e = cc

no_end : (text : List ℕ) (first : List ℕ) (lines : List Line) → text ∷ [] ≡ first ∷ texts_of lines → ⊥
no_end text first lines e =
    let parts = body_cons lines in
    let bad : text ∷ [] ≡ first ∷ parts.0 ∷ parts.1 = rw parts.2 at e in
    absurd cc

pub behind_header : (bytes first body : List ℕ) (version : ℕ) (lines : List Line) → parts_of bytes ≡ first ∷ parts_of body → Allows version lines → bytes ≡ spelling version lines → parts_of body ≡ texts_of lines
behind_header bytes first body version lines cut fit is = same_others first (header version) (parts_of body) (texts_of lines) (sym cut ∙ ap parts_of is ∙ spelling_split version lines fit)

pub has_header : (bytes : List ℕ) (version : ℕ) (lines : List Line) → parts_of bytes ≡ bytes ∷ [] → Allows version lines → bytes ≡ spelling version lines → ⊥
has_header bytes version lines cut fit is = no_end bytes (header version) lines (sym cut ∙ ap parts_of is ∙ spelling_split version lines fit)

pub has_text : (rest : List ℕ) (line : Line) (lines : List Line) → parts_of rest ≡ rest ∷ [] → parts_of rest ≡ texts_of (line ∷ lines) → ⊥
has_text rest line lines cut is = no_end rest (spelling_of line) lines (sym cut ∙ is)
