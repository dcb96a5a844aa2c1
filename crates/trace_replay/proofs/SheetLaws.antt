-- What a sheet has goes with the replies that are noted.
use Rattle.std.proofs.Common.{◌≡◌, ℕ, suc, ◌+◌, ◌^◌, ◌<◌, ◌≤◌, Bool, true, false, List, [], ◌∷◌, ◌++◌, length, refl, sym, ap, ◌∙◌, append_assoc, append-nil, arith}
use Rattle.std.specs.Prelude.{codes}
use Rattle.own_blocks.specs.declared.reply.Reply.{Reply}
use Rattle.stats_text.specs.declared.records.Outcome.{Outcome}
use Rattle.stats_text.specs.declared.answer_counts.Counts.{Counts}
use Rattle.stats_text.specs.Appends.{LacksRoom}
use Rattle.stats_text.specs.Records.{record_text}
use Rattle.stats_text.specs.AnswerCounts.{gives_block, is_null, is_missed, is_skip, counts_of, count_with, counts_with}
use Rattle.stats_text.proofs.CountLaws.{counts_push}
use Rattle.trace_text.specs.declared.trace.Line.{Line}
use Rattle.trace_text.specs.Spelling.{spelling_of, texts_of}
use Rattle.trace_replay.specs.declared.sheet.Records.{Records}
use Rattle.trace_replay.specs.declared.sheet.Sheet.{Sheet}
use Rattle.trace_replay.specs.declared.sheet.Sheet.TheVariants.{Report, Summary}
use Rattle.trace_replay.specs.Sheets.{HasNoted, HasRoomFor, IsTrace, Spells, Awaits, CanNote, NotesReply, LacksRoomFor}
use Rattle.trace_replay.specs.Records.{outcome_of, outcomes_of, record_of, records_of}

records_of-push : (replies : List (Line × Reply)) (x : Line × Reply) → records_of (replies ++ x ∷ []) ≡ records_of replies ++ record_of x
unfolding records_of
records_of-push [] x = append-nil (record_of x)
records_of-push (r ∷ rs) x = ap (λ text. record_of r ++ text) (records_of-push rs x) ∙ sym (append_assoc (record_of r) (records_of rs) (record_of x))

outcomes_of-push : (replies : List (Line × Reply)) (x : Line × Reply) → outcomes_of (replies ++ x ∷ []) ≡ outcomes_of replies ++ outcome_of x.0.call x.1 ∷ []
outcomes_of-push [] x = refl
outcomes_of-push (r ∷ rs) x = ap (λ said. outcome_of r.0.call r.1 ∷ said) (outcomes_of-push rs x)

-- ---- a sheet before any line

-- the bytes of a trace do for a report and for a summary
pub bytes_spell : (summary : Bool) (bytes : List ℕ) (lines : List Line) → IsTrace lines bytes → Spells summary bytes lines
bytes_spell true bytes lines h = tt
bytes_spell false bytes lines h = h

pub no_records : (text first : List ℕ) → text ≡ first → text ≡ first ++ records_of []
unfolding records_of
no_records text first h = h ∙ sym (append-nil first)

pub first_room : (counts : Counts) (more : ℕ) → counts ≡ counts_of [] → more < 2 ^ 64 → HasRoomFor counts more
unfolding counts_of
first_room counts more h few = rw h (record { lines = omega arith; got = omega arith; null = omega arith; missed = omega arith; skip = omega arith })

-- ---- a reply more

text_more : (head before now : List ℕ) (line : Line) (reply : Reply) (said : Outcome) (replies : List (Line × Reply)) → before ≡ head ++ records_of replies → said ≡ outcome_of line.call reply → now ≡ before ++ record_text (spelling_of line) said false → now ≡ head ++ records_of (replies ++ (line, reply) ∷ [])
text_more head before now line reply said replies has says appended =
    appended
    ∙ ap (λ (front : List ℕ). front ++ record_text (spelling_of line) said false) has
    ∙ append_assoc head (records_of replies) (record_text (spelling_of line) said false)
    ∙ ap (λ (more : List ℕ). head ++ more)
    (ap (λ (o : Outcome). records_of replies ++ record_text (spelling_of line) o false) says ∙ sym (records_of-push replies (line, reply)))

-- the record of the next line goes behind the others
pub record_noted : (before : Sheet) (old now : Records) (line : Line) (reply : Reply) (said : Outcome) (rest : List Line) → before ≡ Report old → said ≡ outcome_of line.call reply →
    ((next : Line) (others : List Line) → old.texts ≡ texts_of (next ∷ others) → (now.text.items ≡ old.text.items ++ record_text (spelling_of next) said false) × (now.texts ≡ texts_of others)) →
    Awaits before (line ∷ rest) → NotesReply before line reply rest (Report now)
record_noted before old now line reply said rest is says appends awaits =
    let at : old.texts ≡ texts_of (line ∷ rest) = rw is at awaits in
    let appended = appends line rest at in
    rw is (record {
      awaits = appended.1;
      noted = λ summary replies.
          elim summary as (λ s. HasNoted s (Report old) replies → HasNoted s (Report now) (replies ++ (line, reply) ∷ [])) [
            | true ↦ λ no. absurd no
            | false ↦ λ has. text_more (codes "ptmreport 1 serial\n") old.text.items now.text.items line reply said replies has says appended.0
          ];
    })

-- where that record lacks room, the reply can't be noted
pub record_lacks : (before : Sheet) (old : Records) (line : Line) (reply : Reply) (said : Outcome) (rest : List Line) → before ≡ Report old → said ≡ outcome_of line.call reply →
    ((next : Line) (others : List Line) → old.texts ≡ texts_of (next ∷ others) → LacksRoom old.text (record_text (spelling_of next) said false)) →
    Awaits before (line ∷ rest) → LacksRoomFor before line reply
record_lacks before old line reply said rest is says lacks awaits =
    let at : old.texts ≡ texts_of (line ∷ rest) = rw is at awaits in
    let lacking : LacksRoom old.text (record_text (spelling_of line) said false) = lacks line rest at in
    rw is (rw says at lacking)

within_one : (n : ℕ) (counts : Bool) → count_with n counts ≤ n + 1
within_one n true = omega arith
within_one n false = omega arith

room_left : (c : Counts) (said : Outcome) (more : ℕ) → HasRoomFor c (suc more) → HasRoomFor (counts_with c said) more
unfolding counts_with
room_left c said more room = record {
  lines = omega (arith, room.lines);
  got = omega (arith, room.got, within_one c.got (gives_block said));
  null = omega (arith, room.null, within_one c.null (is_null said));
  missed = omega (arith, room.missed, within_one c.missed (is_missed said));
  skip = omega (arith, room.skip, within_one c.skip (is_skip said));
}

counted : (old now : Counts) (line : Line) (reply : Reply) (said : Outcome) (replies : List (Line × Reply)) → old ≡ counts_of (outcomes_of replies) → said ≡ outcome_of line.call reply → now ≡ counts_with old said → now ≡ counts_of (outcomes_of (replies ++ (line, reply) ∷ []))
counted old now line reply said replies has says adds =
    adds
    ∙ ap (λ (c : Counts). counts_with c said) has
    ∙ ap (counts_with (counts_of (outcomes_of replies))) says
    ∙ sym (counts_push (outcomes_of replies) (outcome_of line.call reply))
    ∙ ap counts_of (sym (outcomes_of-push replies (line, reply)))

-- the answer is counted
pub count_noted : (before : Sheet) (old now : Counts) (line : Line) (reply : Reply) (said : Outcome) (rest : List Line) → before ≡ Summary old → said ≡ outcome_of line.call reply → now ≡ counts_with old said →
    Awaits before (line ∷ rest) → NotesReply before line reply rest (Summary now)
count_noted before old now line reply said rest is says adds awaits =
    let room : HasRoomFor old (suc (length rest)) = rw is at awaits in
    rw is (record {
      awaits = rw adds (room_left old said (length rest) room);
      noted = λ summary replies.
          elim summary as (λ s. HasNoted s (Summary old) replies → HasNoted s (Summary now) (replies ++ (line, reply) ∷ [])) [
            | true ↦ λ has. counted old now line reply said replies has says adds
            | false ↦ λ no. absurd no
          ];
    })

-- a sheet that awaits a line can note it
pub can_note : (sheet : Sheet) (line : Line) (rest : List Line) → Awaits sheet (line ∷ rest) → CanNote sheet
can_note (Report records) line rest awaits = tt
can_note (Summary counts) line rest awaits = record {
  lines = omega (arith, awaits.lines);
  got = omega (arith, awaits.got);
  null = omega (arith, awaits.null);
  missed = omega (arith, awaits.missed);
  skip = omega (arith, awaits.skip);
}
