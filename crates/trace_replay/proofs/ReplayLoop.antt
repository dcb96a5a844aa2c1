-- A run over lines, one after another.
use Rattle.std.proofs.Common.{◌≡◌, ℕ, Bool, List, [], ◌∷◌, ◌++◌, Some, Result, Ok, Err, refl, sym, ap, ◌∙◌, append_assoc, append-nil, ◌+◌, ◌≤◌, inl, inr, length, slice_get, take, drop, subst, arith}
use Rattle.std.proofs.lemmas.Bool.{cases_lt}
use Rattle.std.proofs.lemmas.List.{take_all}
use Rattle.chunk_tags.specs.declared.tunables.Tunables.{Tunables}
use Rattle.address_space.specs.Ports.{Port}
use Rattle.own_blocks.specs.declared.reply.Reply.{Reply}
use Rattle.trace_text.specs.declared.trace.Line.{Line}
use Rattle.trace_text.proofs.NextLines.{take_next, drop_next}
use Rattle.trace_replay.specs.declared.exit.Exit.{Exit}
use Rattle.trace_replay.specs.World.{World, step}
use Rattle.trace_replay.specs.declared.sheet.Sheet.{Sheet}
use Rattle.trace_replay.specs.Sheets.{HasNoted, Awaits, CanNote, NotesReply, NotesRun}
use Rattle.trace_replay.specs.Runs.{Run, in_front, answer_of, line_and_rest, run_of}
use Rattle.trace_replay.specs.Naming.{LeavesLine}
use Rattle.trace_replay.specs.Tiling.{Wishes, IsTiled, FitsWithin, TilesAfter, no_wishes, wishes_of}
use Rattle.trace_replay.proofs.LinesAfter.{no_replies, wishes_push, fits_after}
use Rattle.trace_replay.proofs.SheetLaws.{can_note}

-- replies in front of what the rest of a run gives
abbrev pub in_fronts : {K : Type 0} → List (Line × Reply) → Result (Run K) Exit → Result (Run K) Exit
in_fronts replies (Ok run) = Ok (record run { replies = replies ++ run.replies })
in_fronts replies (Err exit) = Err exit

-- the replies so far, in front of what any further lines give, are what these give behind the lines in front; the sheet has
-- noted them; and the blocks are what was asked for
pub record SoFar {K : Type 0} (port : Port K) (t : Tunables) (front : List Line) (first now : World K) (before sheet : Sheet) : Type 0 where
  pub replies : List (Line × Reply)
  pub noted : (summary : Bool) → HasNoted summary before [] → HasNoted summary sheet replies
  pub all : (rest : List Line) → in_fronts replies (run_of port t rest now) ≡ run_of port t (front ++ rest) first
  pub fit : FitsWithin (wishes_of replies) now

in_fronts-nil : {K : Type 0} (r : Result (Run K) Exit) → in_fronts [] r ≡ r
in_fronts-nil (Ok run) = refl
in_fronts-nil (Err exit) = refl

in_fronts-push : {K : Type 0} (replies : List (Line × Reply)) (x : Line × Reply) (r : Result (Run K) Exit) →
    in_fronts (replies ++ x ∷ []) r ≡ in_fronts replies (in_front x r)
in_fronts-push replies x (Ok run) = ap (λ rs. Ok (record run { replies = rs })) (append_assoc replies (x ∷ []) run.replies)
in_fronts-push replies x (Err exit) = refl

pub nothing_yet : {K : Type 0} (port : Port K) (t : Tunables) (first : World K) (sheet : Sheet) → FitsWithin no_wishes first → SoFar port t [] first first sheet sheet
nothing_yet port t first sheet fit = record {
  replies = [];
  noted = λ summary blank. blank;
  all = λ rest. in_fronts-nil (run_of port t rest first);
  fit = subst (λ (w : Wishes). FitsWithin w first) (sym no_replies) fit;
}

-- what a line and the rest give
run_of-cons : {K : Type 0} (port : Port K) (t : Tunables) (line : Line) (rest : List Line) (w : World K) → run_of port t (line ∷ rest) w ≡ line_and_rest line (answer_of (step port t line w)) (run_of port t rest)
unfolding run_of
run_of-cons port t line rest w = refl

one_more : {K : Type 0} (port : Port K) (t : Tunables) (front : List Line) (line : Line) (reply : Reply) (first now next : World K) (before sheet after : Sheet) (rest : List Line) → SoFar port t front first now before sheet →
    step port t line now ≡ Some (reply, next) → NotesReply sheet line reply rest after → LeavesLine line reply now next → SoFar port t (front ++ line ∷ []) first next before after
one_more {K} port t front line reply first now next before sheet after rest so_far is notes leaves =
    let x : Line × Reply = (line, reply) in
    let here : answer_of (step port t line now) ≡ Ok (reply, next) = ap answer_of is in
    record {
      replies = so_far.replies ++ x ∷ [];
      noted = λ summary blank. notes.noted summary so_far.replies (so_far.noted summary blank);
      all = λ rest.
          in_fronts-push so_far.replies x (run_of port t rest next)
          ∙ ap (λ (r : Result (Reply × World K) Exit). in_fronts so_far.replies (line_and_rest line r (run_of port t rest))) (sym here)
          ∙ ap (in_fronts so_far.replies) (sym (run_of-cons port t line rest now))
          ∙ so_far.all (line ∷ rest)
          ∙ ap (λ (lines : List Line). run_of port t lines first) (sym (append_assoc front (line ∷ []) rest));
      fit = subst (λ (w : Wishes). FitsWithin w next) (sym (wishes_push so_far.replies x)) (fits_after (wishes_of so_far.replies) line reply now next so_far.fit leaves);
    }

-- the sheet awaits the next line and those behind it
pub awaits_next : (sheet : Sheet) (lines : List Line) (i : ℕ) (line : Line) → slice_get lines i ≡ Some line → Awaits sheet (drop i lines) → Awaits sheet (line ∷ drop (i + 1) lines)
awaits_next sheet lines i line at awaits = subst (Awaits sheet) (drop_next lines i line at) awaits

-- so it can note it
pub can_note_next : (sheet : Sheet) (lines : List Line) (i : ℕ) (line : Line) → slice_get lines i ≡ Some line → Awaits sheet (drop i lines) → CanNote sheet
can_note_next sheet lines i line at awaits = can_note sheet _ _ (awaits_next sheet lines i line at awaits)

-- the loop goes on behind a line that was answered, under tunables that stayed
pub goes_on : {K : Type 0} (port : Port K) (t now_t : Tunables) (lines : List Line) (i : ℕ) (line : Line) (reply : Reply) (first now next : World K) (before sheet after : Sheet) (rest : List Line) → now_t ≡ t → slice_get lines i ≡ Some line → SoFar port t (take i lines) first now before sheet →
    step port now_t line now ≡ Some (reply, next) → NotesReply sheet line reply rest after → LeavesLine line reply now next → SoFar port t (take (i + 1) lines) first next before after
goes_on {K} port t now_t lines i line reply first now next before sheet after rest same at so_far is notes leaves =
    subst (λ (front : List Line). SoFar port t front first next before after) (sym (take_next lines i line at))
    (one_more port t (take i lines) line reply first now next before sheet after rest so_far
    (subst (λ (u : Tunables). step port u line now ≡ Some (reply, next)) same is) notes leaves)

-- what the run gives, where no line is left
gives : {K : Type 0} (port : Port K) (t : Tunables) (lines : List Line) (first now : World K) (before sheet : Sheet) (so_far : SoFar port t lines first now before sheet) → run_of port t lines first ≡ Ok (record { replies = so_far.replies ++ []; world = now })
unfolding run_of
gives port t lines first now before sheet so_far = ap (λ (ls : List Line). run_of port t ls first) (sym (append-nil lines)) ∙ sym (so_far.all [])

pub finished : {K : Type 0} (port : Port K) (t : Tunables) (lines : List Line) (first now : World K) (before sheet : Sheet) → SoFar port t lines first now before sheet → NotesRun before sheet (run_of port t lines first) now
finished port t lines first now before sheet so_far = record {
  run = record { replies = so_far.replies ++ []; world = now };
  gives = gives port t lines first now before sheet so_far;
  world = refl;
  noted = λ summary blank. subst (HasNoted summary sheet) (sym (append-nil so_far.replies)) (so_far.noted summary blank);
}

-- ---- behind each line

-- behind the first lines, however many of those so far
pub TilesSoFar : {K : Type 0} → Port K → Tunables → List Line → ℕ → World K → Type 0
TilesSoFar port t lines i first = (count : ℕ) → count ≤ i → TilesAfter port t (take count lines) first

pub tiles_here : {K : Type 0} (port : Port K) (t : Tunables) (front : List Line) (first now : World K) (before sheet : Sheet) → SoFar port t front first now before sheet → IsTiled now → TilesAfter port t front first
tiles_here port t front first now before sheet so_far tiled = record {
  run = record { replies = so_far.replies ++ []; world = now };
  gives = gives port t front first now before sheet so_far;
  tiled = tiled;
  fit = subst (λ (rs : List (Line × Reply)). FitsWithin (wishes_of rs) now) (sym (append-nil so_far.replies)) so_far.fit;
}

pub tiles_first : {K : Type 0} (port : Port K) (t : Tunables) (lines : List Line) (first : World K) (sheet : Sheet) → IsTiled first → FitsWithin no_wishes first → TilesSoFar port t lines 0 first
unfolding TilesSoFar
tiles_first port t lines first sheet tiled fit = λ count none.
    let is : 0 ≡ count = omega arith in
    subst (λ n. TilesAfter port t (take n lines) first) is
    (tiles_here port t [] first first sheet sheet (nothing_yet port t first sheet fit) tiled)

pub tiles_next : {K : Type 0} (port : Port K) (t : Tunables) (lines : List Line) (i : ℕ) (first now : World K) (before sheet : Sheet) → TilesSoFar port t lines i first → SoFar port t (take (i + 1) lines) first now before sheet → IsTiled now → TilesSoFar port t lines (i + 1) first
unfolding TilesSoFar
tiles_next port t lines i first now before sheet so_far here tiled = λ count most.
    elim (cases_lt i count) [
      | inl last ↦
          let is : i + 1 ≡ count = omega arith in
          subst (λ n. TilesAfter port t (take n lines) first) is (tiles_here port t (take (i + 1) lines) first now before sheet here tiled)
      | inr before_it ↦ so_far count before_it
    ]

pub tiles_all : {K : Type 0} (port : Port K) (t : Tunables) (lines : List Line) (i : ℕ) (first : World K) → length lines ≤ i → TilesSoFar port t lines i first → (count : ℕ) → TilesAfter port t (take count lines) first
unfolding TilesSoFar
tiles_all port t lines i first all so_far count =
    elim (cases_lt i count) [
      | inl past ↦
          let more : length lines ≤ count = omega arith in
          subst (λ front. TilesAfter port t front first) (take_all i lines all ∙ sym (take_all count lines more)) (so_far i (omega arith))
      | inr within ↦ so_far count within
    ]
