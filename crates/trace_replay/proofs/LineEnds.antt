-- What a line keeps at its end, where the place of its name goes.
use Rattle.std.proofs.Common.{◌≡◌, ℕ, true, List, Option, Some, None, refl, sym, ap, ◌∙◌, subst, arith}
use Rattle.chunk_tags.specs.declared.block.Block.{Block}
use Rattle.own_blocks.specs.declared.own.Own.{Own}
use Rattle.own_blocks.specs.declared.reply.Reply.{Reply}
use Rattle.malloc_calls.specs.declared.thread.Thread.{Thread}
use Rattle.block_names.specs.Names.{NameTable, IsTable, FarNamesRise, block_at, tidied}
use Rattle.block_names.proofs.Tables.{at_tidied, tidied_weighs}
use Rattle.own_blocks.specs.Own.{in_own}
use Rattle.malloc_calls.specs.Threads.{own_of, with_own, with_names, names_of}
use Rattle.arena_holds.specs.Places.{weight_of, both_of, as_mapped_byte}
use Rattle.serial_places.specs.SerialWays.{SerialState}
use Rattle.serial_places.specs.LawsOfPlaces.{serial_laws}
use Rattle.serial_places.specs.declared.tray.Tray.{Tray}
use Rattle.trace_text.specs.declared.trace.Call.{Call}
use Rattle.trace_text.specs.declared.trace.Line.{Line}
use Rattle.trace_replay.specs.Naming.{LeavesBlocks}
use Rattle.trace_replay.specs.Processes.{KeepsOn, IsReady, EndsLine}
use Rattle.trace_replay.specs.World.{name_in, own_tidied}

-- the thread at the end of its line
abbrev pub thread_tidied : {K : Type 0} → Option ℕ → Thread K → Thread K
thread_tidied name th = with_own (own_tidied name (own_of th)) th

-- where the name of its call was seen
pub with_a_name : {K : Type 0} (call : Call) (th end : Thread K) (seen : Option ℕ) (name : ℕ) → seen ≡ name_in call → seen ≡ Some name →
    end ≡ with_names (tidied name (names_of th)) th → end ≡ thread_tidied (name_in call) th
with_a_name {K = K} call th end seen name of is same = same ∙ ap (λ o. thread_tidied {K = K} o th) (sym is ∙ of)

pub without_a_name : {K : Type 0} (call : Call) (th : Thread K) (seen : Option ℕ) → seen ≡ name_in call → seen ≡ None → th ≡ thread_tidied (name_in call) th
without_a_name {K = K} call th seen of is = ap (λ o. thread_tidied {K = K} o th) (sym is ∙ of)

-- ---- its names hold what they held, and weigh what they weighed

tidied_holds : (name : Option ℕ) (own : Own) (n : ℕ) → FarNamesRise own.names → block_at (own_tidied name own).names n ≡ block_at own.names n
tidied_holds None own n rise = refl
tidied_holds (Some name) own n rise = at_tidied name n own.names rise

tidied_own_weighs : (name : Option ℕ) (own : Own) (weigh : Block → ℕ) → in_own (own_tidied name own) weigh ≡ in_own own weigh
tidied_own_weighs None own weigh = refl
tidied_own_weighs (Some name) own weigh = omega (arith, tidied_weighs name own.names (λ o. weight_of o weigh) refl)

-- ---- so the line leaves what its call left

keeps_tidied : {K : Type 0} (th new : Thread K) (st next : SerialState) (name : Option ℕ) → IsTable (names_of new) → KeepsOn th st new next → KeepsOn th st (thread_tidied name new) next
keeps_tidied {K = K} th new st next name table c =
    let end : Thread K = thread_tidied name new in
    let weighs : (weigh : Block → ℕ) → in_own (own_of end) weigh ≡ in_own (own_of new) weigh = tidied_own_weighs name (own_of new) in
    record {
      serves = λ others s.
          serial_laws.same true next (both_of (in_own (own_of new)) others) (both_of (in_own (own_of end)) others) (λ weigh. omega (arith, weighs weigh)) (c.serves others s);
      notes = c.notes;
      bytes = λ n. omega (arith, c.bytes n, weighs (as_mapped_byte n));
      whole = c.whole;
      trays = c.trays;
      tunables = c.tunables;
      ready = λ t number held r.
          let there : IsReady t number new = c.ready t number table r in
          record { numbered = there.numbered; space = there.space; windows = there.windows; inside = there.inside; held = held };
    }

pub ended_keeps : {K : Type 0} (line : Line) (th new end : Thread K) (st next : SerialState) → EndsLine line new end → KeepsOn th st new next → KeepsOn th st end next
ended_keeps {K = K} line th new end st next e c =
    subst (λ (x : Thread K). KeepsOn th st x next) (sym e.is) (keeps_tidied th new st next (name_in line.call) e.table c)

leaves_tidied : (line : Line) (reply : Reply) (names : NameTable) (own : Own) (trays left : List Tray) (name : Option ℕ) → FarNamesRise own.names →
    LeavesBlocks line reply names own.names trays left → LeavesBlocks line reply names (own_tidied name own).names trays left
leaves_tidied line reply names own trays left name rise c = record {
  held = λ n was before e. tidied_holds name own n rise ∙ c.held n was before e;
  empty = c.empty;
  fit = λ wishes fits. let f = c.fit wishes fits in record {
    named = λ n b at. f.named n b (sym (tidied_holds name own n rise) ∙ at);
    posted = f.posted;
  };
}

pub ended_leaves : {K : Type 0} (line : Line) (reply : Reply) (names : NameTable) (new end : Thread K) (trays left : List Tray) → EndsLine line new end →
    LeavesBlocks line reply names (names_of new) trays left → LeavesBlocks line reply names (names_of end) trays left
ended_leaves {K = K} line reply names new end trays left e c =
    subst (λ (x : Thread K). LeavesBlocks line reply names (names_of x) trays left) (sym e.is)
    (leaves_tidied line reply names (own_of new) trays left (name_in line.call) e.rising c)
