-- The text on a run, out of its parts.
use Rattle.std.proofs.Common.{◌≡◌, ℕ, Bool, true, false, List, [], ◌++◌, take, Option, Result, Ok, Err, sym, ap, subst, ◌∙◌}
use Rattle.std.specs.Prelude.{OnOk}
use Rattle.chunk_tags.specs.declared.tunables.Tunables.{Tunables}
use Rattle.address_space.specs.Ports.{Port}
use Rattle.stats_text.specs.declared.answer_counts.Counts.{Counts}
use Rattle.stats_text.specs.Summary.{summary_of}
use Rattle.stats_text.specs.Views.{Shown}
use Rattle.trace_text.specs.declared.trace.Line.{Line}
use Rattle.world_view.specs.Scenes.{shown_of}
use Rattle.trace_replay.specs.declared.sheet.Notes.{Notes}
use Rattle.trace_replay.specs.declared.sheet.Sheet.{Sheet}
use Rattle.trace_replay.specs.declared.sheet.Sheet.TheVariants.{Report, Summary}
use Rattle.trace_replay.specs.Runs.{Run, run_of}
use Rattle.trace_replay.specs.SerialText.{sections, shown_behind, run_text, text_on, text_over, trim_section}
use Rattle.trace_replay.specs.Sheets.{HasNoted, NotesRun, notes_of, text_with}
use Rattle.trace_replay.specs.Tiling.{TilesAfter, GivesTiles}
use Rattle.trace_replay.specs.Views.{threads_in, scene_of}
use Rattle.trace_replay.specs.World.{World, opening_world}

-- the text of a sheet that has the replies of a run, with what is shown of the world at the end
text_noted : {K : Type 0} (summary : Bool) (sheet : Sheet) (threads : List ℕ) (run : Run K) → HasNoted summary sheet run.replies → text_with (notes_of sheet) (shown_behind threads run) ≡ run_text summary threads run
text_noted true (Summary counts) threads run h = ap (λ (c : Counts). summary_of c (shown_behind threads run)) h
text_noted false (Report records) threads run h = ap (λ (front : List ℕ). front ++ sections (shown_behind threads run)) h
text_noted true (Report records) threads run h = absurd h
text_noted false (Summary counts) threads run h = absurd h

-- the run over all lines from the world that a run begins with, w; then the text of its sheet on the world at the end, now,
-- and behind it what was given up of its arenas
pub text_served : {K : Type 0} (port : Port K) (summary : Bool) (trim : Option ℕ) (t now_t : Tunables) (lines : List Line) (kernels : List K) (w now : World K) (before sheet : Sheet) (numbers : List ℕ) (notes : Notes) (text trimmed all : List ℕ) (s : Shown) → now_t ≡ t → w ≡ opening_world t kernels → HasNoted summary before [] →
    NotesRun before sheet (run_of port now_t lines w) now → numbers ≡ threads_in lines → s ≡ shown_of (scene_of numbers now) → trimmed ≡ trim_section trim (scene_of numbers now) → notes ≡ notes_of sheet → text ≡ text_with notes s → all ≡ text ++ trimmed →
    text_over port summary trim t lines kernels ≡ Ok all
text_served {K} port summary trim t now_t lines kernels w now before sheet numbers notes text trimmed all s same first blank run named shows gave noted written ended =
    let threads : List ℕ = threads_in lines in
    let shows_all : s ≡ shown_of (scene_of threads now) = shows ∙ ap (λ (ns : List ℕ). shown_of (scene_of ns now)) named in
    let written_all : text ≡ text_with (notes_of sheet) s = written ∙ ap (λ (n : Notes). text_with n s) noted in
    let front : run_text summary threads run.run ≡ text =
    sym (text_noted summary sheet threads run.run (run.noted summary blank))
    ∙ ap (text_with (notes_of sheet)) (ap (λ (v : World K). shown_of (scene_of threads v)) run.world ∙ sym shows_all)
    ∙ sym written_all in
    let back : trim_section trim (scene_of threads run.run.world) ≡ trimmed =
    ap (λ (v : World K). trim_section trim (scene_of threads v)) run.world ∙ sym (gave ∙ ap (λ (ns : List ℕ). trim_section trim (scene_of ns now)) named) in
    ap (text_on summary trim threads) (ap (run_of port t lines) (sym first) ∙ (ap (λ (u : Tunables). run_of port u lines w) (sym same) ∙ run.gives))
    ∙ ap Ok (ap (λ (x : List ℕ). x ++ trim_section trim (scene_of threads run.run.world)) front ∙ (ap (λ (x : List ℕ). text ++ x) back ∙ sym ended))

-- behind each line the world is tiled, from the world that a run begins with on
pub tiles_given : {K : Type 0} (port : Port K) (t now_t : Tunables) (lines : List Line) (kernels : List K) (w : World K) → now_t ≡ t → w ≡ opening_world t kernels → ((count : ℕ) → TilesAfter port now_t (take count lines) w) → GivesTiles port t lines kernels
tiles_given port t now_t lines kernels w same first each = record {
  behind = λ count.
      subst (TilesAfter port t (take count lines)) first
      (subst (λ (u : Tunables). TilesAfter port u (take count lines) w) same (each count));
}

-- what is so is so where a text is written
pub on_ok : {A E P : Type 0} (r : Result A E) → P → OnOk r P
on_ok (Ok x) p = p
on_ok (Err e) p = tt
