-- Where a line's call is left for want of memory, that first made a place for its name.
use Rattle.std.proofs.Common.{◌≡◌, ℕ, inl, inr, false, Some, None, Result, refl, sym, ap, ◌∙◌, subst}
use Rattle.std.specs.Prelude.{OnErr}
use Rattle.std.proofs.lemmas.Bool.Decides.{eqb_tells}
use Rattle.chunk_tags.specs.declared.refusals.NoMemory.{NoMemory}
use Rattle.chunk_tags.specs.declared.tunables.Tunables.{Tunables}
use Rattle.address_space.specs.Ports.{Port}
use Rattle.arena_core.specs.declared.journal.Who.{Who}
use Rattle.arena_holds.specs.Calls.{Call}
use Rattle.arena_holds.specs.RunningShort.{RunsShort}
use Rattle.arena_holds.specs.Places.{Setting, Standing, standing}
use Rattle.block_names.specs.Names.{NameTable, has_place, block_at}
use Rattle.block_names.proofs.Tables.{at_other, without_none}
use Rattle.own_blocks.specs.Exits.{exit_call}
use Rattle.own_blocks.specs.Frees.{HoldsOrLoses}
use Rattle.own_blocks.specs.LeftCalls.{IsLeft}
use Rattle.own_blocks.specs.declared.own.Own.{Own}
use Rattle.own_blocks.specs.declared.reply.Reply.{Reply}
use Rattle.malloc_calls.specs.declared.thread.Thread.{Thread}
use Rattle.malloc_calls.specs.Threads.{names_of, number_of, own_of, space_of, who_of}
use Rattle.serial_places.specs.SerialWays.{SerialState, serial_setting}
use Rattle.trace_text.specs.declared.trace.Call as traced
use Rattle.trace_text.specs.declared.trace.Call.TheVariants as traces
use Rattle.trace_replay.specs.LeftLines.{LacksPlace, IsLeftThere, IsCallLeft}
use Rattle.trace_replay.specs.World.{call_of, name_in}
use Rattle.trace_replay.proofs.HeldNames.{block_there}
use Rattle.trace_replay.proofs.Keeping.{readied}
use Rattle.trace_replay.proofs.Results.{on_err₂}

-- ---- what a call leaves of the names that stand there

-- none of them gets a block, and all but one hold what they held
pub record GetsNone (name : ℕ) (names now : NameTable) : Type 0 where
  pub none : (n : ℕ) → block_at names n ≡ None → block_at now n ≡ None
  pub others : (n : ℕ) → (n ≡ name → ⊥) → block_at now n ≡ block_at names n

pub names_same : (name : ℕ) (names now : NameTable) → now ≡ names → GetsNone name names now
names_same name names now same = record {
  none = λ n e. ap (λ (x : NameTable). block_at x n) same ∙ e;
  others = λ n other. ap (λ (x : NameTable). block_at x n) same;
}

pub names_but : (name : ℕ) (names now : NameTable) → (block_at names name ≡ None → block_at now name ≡ None) →
    ((n : ℕ) → (n ≡ name → ⊥) → block_at now n ≡ block_at names n) → GetsNone name names now
names_but name names now own others = record {
  none = λ n e.
      elim (eqb_tells n name) [
        | inl equal ↦ ap (block_at now) equal.1 ∙ own (ap (block_at names) (sym equal.1) ∙ e)
        | inr other ↦ others n other.1 ∙ e
      ];
  others = others;
}

pub names_lost : {P H D K : Type 0} (s : Setting P H D K) (t : Tunables) (who : Who) (name : ℕ) (names now : NameTable) (new : Standing P K) →
    HoldsOrLoses s t who name names now new → GetsNone name names now
names_lost s t who name names now new (inl same) = names_same name names now same
names_lost s t who name names now new (inr loses) =
    names_but name names now (λ e. ap (λ (x : NameTable). block_at x name) loses.gone ∙ without_none name names)
    (λ n other. ap (λ (x : NameTable). block_at x n) loses.gone ∙ at_other name n None names other)

-- ---- no place for the name

pub no_place : {K : Type 0} (name : ℕ) (call : traced.Call) (th new : Thread K) (st : SerialState) → name_in call ≡ Some name → has_place (names_of th) name ≡ false → new ≡ th → LacksPlace call th st new st
no_place name call th new st named none same = record { name = name; named = named; none = none; thread = same; places = refl }

-- ---- a call of the thread with the place

left_readied : {K : Type 0} (port : Port K) (t : Tunables) (line name : ℕ) (line_call : traced.Call) (call : Thread K → Call (Reply × Own)) (th there new : Thread K) (st next : SerialState) → there ≡ readied name th →
    call (readied name th) ≡ call_of t (number_of th) line_call (own_of th) → name_in line_call ≡ Some name →
    IsLeft (serial_setting (λ s. s) port) t (who_of line there) (call there) (standing st (space_of there)) (standing next (space_of new)) → GetsNone name (names_of there) (names_of new) →
    IsLeftThere port t line line_call th st new next
left_readied {K} port t line name line_call call th there new st next is same named left names = record {
  left = subst (λ (c : Call (Reply × Own)). IsLeft (serial_setting (λ s. s) port) t (who_of line th) c (standing st (space_of th)) (standing next (space_of new))) same
      (subst (λ (x : Thread K). IsLeft (serial_setting (λ s. s) port) t (who_of line x) (call x) (standing st (space_of x)) (standing next (space_of new))) is left);
  none = λ n e. names.none n (block_there th there name n is ∙ e);
  others = λ n other. names.others n (λ e. other (named ∙ ap Some (sym e))) ∙ block_there th there name n is;
}

pub left_there : {K : Type 0} (port : Port K) (t : Tunables) (line name : ℕ) (line_call : traced.Call) (call : Thread K → Call (Reply × Own)) (th there new : Thread K) (st next : SerialState) (r : Result Reply NoMemory) → there ≡ readied name th →
    call (readied name th) ≡ call_of t (number_of th) line_call (own_of th) → name_in line_call ≡ Some name →
    OnErr r (IsLeft (serial_setting (λ s. s) port) t (who_of line there) (call there) (standing st (space_of there)) (standing next (space_of new))) → OnErr r (GetsNone name (names_of there) (names_of new)) →
    OnErr r (IsCallLeft port t line line_call th st new next)
left_there port t line name line_call call th there new st next r is same named =
    on_err₂ r (λ left names. inr (left_readied port t line name line_call call th there new st next is same named left names))

-- the end of a thread has no name
pub left_at_end : {K : Type 0} (port : Port K) (t : Tunables) (line : ℕ) (th new : Thread K) (st next : SerialState) → names_of new ≡ names_of th →
    RunsShort (serial_setting (λ s. s) port) t (who_of line th) (exit_call t (number_of th) (own_of th)) (standing st (space_of th)) (standing next (space_of new)) →
    IsCallLeft port t line traces.Exit th st new next
left_at_end port t line th new st next same short =
    inr (record { left = inl short; none = λ n e. ap (λ (x : NameTable). block_at x n) same ∙ e; others = λ n other. ap (λ (x : NameTable). block_at x n) same })
