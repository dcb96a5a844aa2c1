-- A run that writes nothing, and one that writes its text.
use Rattle.std.proofs.Common.{◌≡◌, ℕ, List, Option, Some, None, Result, Ok, Err, refl}
use Rattle.std.specs.Prelude.{IsOk}
use Rattle.byte_edge.specs.Streams.{Supply, Store}
use Rattle.command_words.specs.declared.asked.Generated.{Generated}
use Rattle.trace_replay.specs.declared.exit.Exit.{Exit}
use Rattle.trace_replay.specs.declared.exit.Exit.TheVariants.{Done, Usage, ReadFault, WriteFault, NoMemory, NotBuilt}
use Rattle.trace_replay.specs.Headline.{LeavesSource, LeavesSink, IsUnwritten, IsWordRefusal, Answers, AnswersJob, Refuses, IsFaultless, IsDoneOrShort}

pub untouched : {W : Type 0} (store : Store W) (sink : W) (exit : Exit) → IsUnwritten exit → LeavesSink store sink exit sink
untouched store sink Done h = absurd h
untouched store sink WriteFault h = absurd h
untouched store sink _ h = refl

pub refused : {W : Type 0} (rules : Result (List ℕ) Exit) (store : Store W) (sink : W) (exit : Exit) → IsUnwritten exit → Refuses rules exit → Answers rules store sink exit sink
refused rules store sink Done h r = absurd h
refused rules store sink WriteFault h r = absurd h
refused rules store sink _ h r = r

-- what is left of the source where a text is cut short is what is left where it was written
pub cut_short : {S : Type 0} (supply : Supply S) (made : Option Generated) (before now : S) → LeavesSource supply made before Done now → LeavesSource supply made before WriteFault now
cut_short supply None before now h = h
cut_short supply (Some made) before now h = h

-- words that are refused write nothing, and what refuses them is answered
pub unwritten : (exit : Exit) → IsWordRefusal exit → IsUnwritten exit
unwritten Done h = absurd h
unwritten WriteFault h = absurd h
unwritten _ h = tt

pub refused_words : {W : Type 0} (store : Store W) (sink : W) (exit : Exit) → IsWordRefusal exit → Answers (Err exit) store sink exit sink
refused_words store sink Usage h = refl
refused_words store sink (NotBuilt line) h = refl
refused_words store sink _ h = absurd h

pub refused_job : (A : Type 0) (exit : Exit) → IsWordRefusal exit → AnswersJob {A = A} (Err exit) exit
refused_job A Usage h = refl
refused_job A (NotBuilt line) h = refl
refused_job A _ h = absurd h

-- ---- a job that is given, and no fault counted

not_given : {A : Type 0} (job : Result A Exit) (exit : Exit) → IsOk job → job ≡ Err exit → ⊥
not_given (Ok j) exit ok is = absurd cc
not_given (Err e) exit ok is = absurd cc

pub done_or_short : {S W A : Type 0} (supply : Supply S) (store : Store W) (made : Option Generated) (job : Result A Exit) (source read : S) (sink written : W) (exit : Exit) → IsOk job → AnswersJob job exit →
    LeavesSource supply made source exit read → LeavesSink store sink exit written → IsFaultless supply store source sink read written → IsDoneOrShort exit
done_or_short supply store made job source read sink written Done ok answers left stored faultless = tt
done_or_short supply store made job source read sink written NoMemory ok answers left stored faultless = tt
done_or_short supply store made job source read sink written WriteFault ok answers left stored faultless = absurd (faultless.sink_kept stored.rose)
done_or_short supply store None job source read sink written ReadFault ok answers left stored faultless = absurd (faultless.source_kept left.rose)
done_or_short supply store (Some made) job source read sink written ReadFault ok answers left stored faultless = absurd left
done_or_short supply store made job source read sink written _ ok answers left stored faultless = absurd (not_given job _ ok answers)
