-- A trace that is allowed is read from its spelling, and what is read is allowed and spelled so.
use Rattle.std.proofs.Common.{◌≡◌, ◌==◌, ℕ, eqb, Bool, true, false, cond, List, [], ◌∷◌, ◌++◌, codes, Option, Some, None, Result, Ok, Err, inl, inr, refl, sym, ap, length, arith, ◌∙◌, append_assoc}
use Rattle.std.specs.Result.{IfOk}
use Rattle.std.specs.List.{flat_map, slice_split, join_with_byte, AllByRecursion}
use Rattle.std.specs.Str.{bytes_eq}
use Rattle.std.proofs.lemmas.Bool.{cases_Bool, eqb-true, eqb-false}
use Rattle.std.proofs.lemmas.List.{append-nil}
use Rattle.std.proofs.lemmas.List.Splits.{join_with_byte-slice_split}
use Rattle.std.proofs.lemmas.Slice.Eq.{bytes_eq-Decides}
use Rattle.trace_text.specs.declared.fault.BadWhy.{BadWhy}
use Rattle.trace_text.specs.declared.fault.BadWhy.TheVariants as bad
use Rattle.trace_text.specs.declared.fault.TraceFault.{TraceFault}
use Rattle.trace_text.specs.declared.trace.Line.{Line}
use Rattle.trace_text.specs.declared.trace.Trace.{Trace}
use Rattle.trace_text.specs.Grammar.{Reading, header, is_empty, fields_of, place_after, line_of, whole, faulty, go_on, lines_after, version_of, after_header, headed, reading_of}
use Rattle.trace_text.specs.ReadsAs.{ReadsAs}
use Rattle.trace_text.specs.Spelling.{spelling_of, spelling, texts_of, IsVersion, AllFit, Allows}
use Rattle.trace_text.proofs.Cuts.{Lacks, split_join}
use Rattle.trace_text.proofs.Spelled.{spelling_lacks, line_again, line_is}

pub body_cons : (lines : List Line) → (first : List ℕ) × (others : List (List ℕ)) × (texts_of lines ≡ first ∷ others)
body_cons [] = ([], [], refl)
body_cons (line ∷ lines) = (spelling_of line, texts_of lines, refl)

body_joined : (lines : List Line) → join_with_byte 10 (texts_of lines) ≡ flat_map (λ line. spelling_of line ++ codes "\n") lines
body_joined [] = refl
body_joined (line ∷ lines) =
    let parts = body_cons lines in
    let one : join_with_byte 10 (texts_of (line ∷ lines)) ≡ spelling_of line ++ (10 ∷ join_with_byte 10 (texts_of lines)) = rw parts.2 refl in
    one ∙ ap (λ (rest : List ℕ). spelling_of line ++ (10 ∷ rest)) (body_joined lines)
    ∙ sym (append_assoc (spelling_of line) (codes "\n") (flat_map (λ line. spelling_of line ++ codes "\n") lines))

spelling_joined : (version : ℕ) (lines : List Line) → join_with_byte 10 (header version ∷ texts_of lines) ≡ spelling version lines
spelling_joined version lines =
    let parts = body_cons lines in
    let one : join_with_byte 10 (header version ∷ texts_of lines) ≡ header version ++ (10 ∷ join_with_byte 10 (texts_of lines)) = rw parts.2 refl in
    one ∙ ap (λ (rest : List ℕ). header version ++ (10 ∷ rest)) (body_joined lines)
    ∙ sym (append_assoc (header version) (codes "\n") (flat_map (λ line. spelling_of line ++ codes "\n") lines))

-- ---- a spelling is read

body_lacks : (version : ℕ) (before lines : List Line) → AllFit version before lines → AllByRecursion (Lacks 10) (texts_of lines)
unfolding AllFit
body_lacks version before [] fit = (refl, tt)
body_lacks version before (line ∷ lines) fit = (spelling_lacks version before line fit.0, body_lacks version (before ++ line ∷ []) lines fit.1)

lines_again : (version : ℕ) (before lines : List Line) → AllFit version before lines → lines_after version before (texts_of lines) ≡ whole version (before ++ lines)
unfolding AllFit lines_after
lines_again version before [] fit = ap (whole version) (sym (append-nil before))
lines_again version before (line ∷ lines) fit =
    let parts = body_cons lines in
    let one : lines_after version before (texts_of (line ∷ lines)) ≡ lines_after version (before ++ line ∷ []) (texts_of lines) = rw (parts.2, line_again version before line fit.0) refl in
    one ∙ lines_again version (before ++ line ∷ []) lines fit.1 ∙ ap (whole version) (append_assoc before (line ∷ []) lines)

header_lacks : (version : ℕ) → Lacks 10 (header version)
header_lacks version = elim (cases_Bool (eqb version 1)) [ inl first ↦ rw first refl | inr other ↦ rw other refl ]

version_again : (version : ℕ) → IsVersion version → version_of (header version) ≡ Some version
unfolding version_of
version_again version is =
    elim (cases_Bool (eqb version 1)) [
      | inl first ↦ let one : 1 ≡ version = sym (eqb-true version 1 first) in rw first (ap Some one)
      | inr other ↦ let two : 2 ≡ version = omega (arith, is, eqb-false version 1 other) in rw other (ap Some two)
    ]

pub spelling_split : (version : ℕ) (lines : List Line) → Allows version lines → slice_split (λ b. b == 10) (spelling version lines) ≡ header version ∷ texts_of lines
spelling_split version lines fit = ap (slice_split (λ b. b == 10)) (sym (spelling_joined version lines)) ∙ split_join 10 (header version) (texts_of lines) (header_lacks version, body_lacks version [] lines fit.1)

pub spelling_again : (version : ℕ) (lines : List Line) → Allows version lines → reading_of (spelling version lines) ≡ whole version lines
unfolding reading_of
spelling_again version lines fit =
    let parts = body_cons lines in
    let one : headed (header version ∷ texts_of lines) ≡ lines_after version [] (texts_of lines) = rw (parts.2, version_again version fit.0) refl in
    ap headed (spelling_split version lines fit) ∙ one ∙ lines_again version [] lines fit.1

-- ---- what is read is spelled so

abbrev version_in : Reading → ℕ
version_in (Ok content) = content.version
version_in (Err fault) = 0

abbrev lines_in : Reading → List Line
lines_in (Ok content) = content.lines
lines_in (Err fault) = []

same_content : (v w : ℕ) (before lines : List Line) → whole v before ≡ whole w lines → (w ≡ v) × (lines ≡ before)
same_content v w before lines e = (sym (ap version_in e), sym (ap lines_in e))

empty_is : (text : List ℕ) → is_empty text ≡ true → text ≡ []
empty_is [] e = refl
empty_is (b ∷ bs) e = absurd (omega (arith, eqb-true (length (b ∷ bs)) 0 e))

-- lines behind others
pub record Continues (version : ℕ) (before : List Line) (parts : List (List ℕ)) (read : ℕ) (all : List Line) : Type 0 where
  pub same : read ≡ version
  pub lines : List Line
  pub all_is : all ≡ before ++ lines
  pub fit : AllFit version before lines
  pub parts_are : parts ≡ texts_of lines

last_is : (version read : ℕ) (before : List Line) (text : List ℕ) (all : List Line) (b : Bool) → is_empty text ≡ b → cond b (whole version before) (faulty (place_after before) bad.Cut) ≡ whole read all → Continues version before (text ∷ []) read all
unfolding AllFit
last_is version read before text all true empty e =
    let is = same_content version read before all e in
    record { same = is.0; lines = []; all_is = is.1 ∙ sym (append-nil before); fit = tt; parts_are = ap (λ (t : List ℕ). t ∷ []) (empty_is text empty) }
last_is version read before text all false empty e = absurd cc

cells : (a x : List ℕ) (bs ys : List (List ℕ)) → a ≡ x → bs ≡ ys → a ∷ bs ≡ x ∷ ys
cells a x bs ys p q = cc

pushed : (version read : ℕ) (before : List Line) (line : Line) (text : List ℕ) (parts : List (List ℕ)) (all : List Line) → line_of version before (fields_of text) ≡ Ok line → Continues version (before ++ line ∷ []) parts read all → Continues version before (text ∷ parts) read all
unfolding AllFit
pushed version read before line text parts all found_line more =
    let found = line_is version before text line found_line in
    record {
      same = more.same;
      lines = line ∷ more.lines;
      all_is = more.all_is ∙ append_assoc before (line ∷ []) more.lines;
      fit = (found.1, more.fit);
      parts_are = cells text (spelling_of line) parts (texts_of more.lines) found.0 more.parts_are;
    }

stepped : (version read : ℕ) (before : List Line) (text : List ℕ) (parts : List (List ℕ)) (all : List Line) (rest : List Line → Reading) → ((so_far : List Line) → rest so_far ≡ whole read all → Continues version so_far parts read all) → (r : Result Line BadWhy) → line_of version before (fields_of text) ≡ r → go_on before r rest ≡ whole read all → Continues version before (text ∷ parts) read all
stepped version read before text parts all rest more (Ok line) found_line e = pushed version read before line text parts all found_line (more (before ++ line ∷ []) e)
stepped version read before text parts all rest more (Err why) found_line e = absurd cc

lines_are : (version read : ℕ) (before : List Line) (text : List ℕ) (parts : List (List ℕ)) (all : List Line) → lines_after version before (text ∷ parts) ≡ whole read all → Continues version before (text ∷ parts) read all
unfolding lines_after
lines_are version read before text [] all e = last_is version read before text all (is_empty text) refl e
lines_are version read before text (next ∷ more) all e =
    stepped version read before text (next ∷ more) all (λ so_far. lines_after version so_far (next ∷ more)) (λ so_far. lines_are version read so_far next more all) (line_of version before (fields_of text)) refl e

same_version : (v w : ℕ) → Some v ≡ Some w → v ≡ w
same_version v w e = cc

no_version : (w : ℕ) → None ≡ Some w → ⊥
no_version w e = cc

header_is : (text : List ℕ) (version : ℕ) → version_of text ≡ Some version → IsVersion version × (text ≡ header version)
unfolding version_of
header_is text version e =
    elim (cases_Bool (bytes_eq text (header 1))) [
      | inl first ↦ let is : 1 ≡ version = same_version 1 version (rw first at e) in rw (← is) ((omega arith, omega arith), (bytes_eq-Decides text (header 1)).0 first)
      | inr other ↦ elim (cases_Bool (bytes_eq text (header 2))) [
        | inl second ↦ let is : 2 ≡ version = same_version 2 version (rw (other, second) at e) in rw (← is) ((omega arith, omega arith), (bytes_eq-Decides text (header 2)).0 second)
        | inr none ↦ absurd (no_version version (rw (other, none) at e))
      ]
    ]

headed_is : (first next : List ℕ) (more : List (List ℕ)) (read : ℕ) (all : List Line) (v : Option ℕ) → version_of first ≡ v → after_header v (next ∷ more) ≡ whole read all → Allows read all × (join_with_byte 10 (first ∷ next ∷ more) ≡ spelling read all)
headed_is first next more read all (Some version) is e =
    let found = lines_are version read [] next more all e in
    let named = header_is first version is in
    rw (found.same, found.all_is) ((named.0, found.fit), ap (join_with_byte 10) (cells first (header version) (next ∷ more) (texts_of found.lines) named.1 found.parts_are) ∙ spelling_joined version found.lines)
headed_is first next more read all None is e = absurd cc

parts_are : (parts : List (List ℕ)) (read : ℕ) (all : List Line) → headed parts ≡ whole read all → Allows read all × (join_with_byte 10 parts ≡ spelling read all)
parts_are [] read all e = absurd cc
parts_are (text ∷ []) read all e = absurd cc
parts_are (text ∷ next ∷ more) read all e = headed_is text next more read all (version_of text) refl e

pub reading_is : (bytes : List ℕ) (version : ℕ) (lines : List Line) → reading_of bytes ≡ whole version lines → Allows version lines × (bytes ≡ spelling version lines)
unfolding reading_of
reading_is bytes version lines e =
    let found = parts_are (slice_split (λ b. b == 10) bytes) version lines e in
    (found.0, sym (join_with_byte-slice_split 10 bytes) ∙ found.1)

pub found_is : (bytes : List ℕ) (read : Result Trace TraceFault) → ReadsAs read (reading_of bytes) → IfOk read (λ t. Allows t.version t.lines × (bytes ≡ spelling t.version t.lines))
found_is bytes (Ok t) e = reading_is bytes t.version t.lines e
found_is bytes (Err fault) e = tt
