-- The text for a job, out of the text on a run of its lines.
use Rattle.std.proofs.Common.{◌≡◌, List, Result, Ok, refl, subst}
use Rattle.std.specs.Prelude.{OnOk}
use Rattle.std.proofs.lemmas.Result.{on_ok_weaker}
use Rattle.address_space.specs.Ports.{Port}
use Rattle.command_words.specs.declared.asked.Asked.{Asked}
use Rattle.trace_text.specs.declared.trace.Line.{Line}
use Rattle.trace_replay.specs.SerialText.{Job}
use Rattle.trace_replay.specs.Tiling.{GivesTiles, ShowsTiles}

abbrev pub job_on : Asked → List Line → Job
job_on asked lines = record { asked = asked; lines = lines }

pub job_tiles : {K A E : Type 0} (port : Port K) (kernels : List K) (asked : Asked) (lines wanted : List Line) (r : Result A E) → lines ≡ wanted →
    OnOk r (GivesTiles port asked.tunables lines kernels) → OnOk r (ShowsTiles port kernels (Ok (job_on asked wanted)))
job_tiles port kernels asked lines wanted r same gives =
    on_ok_weaker r
    (λ tiles. record {
      job = job_on asked wanted;
      given = refl;
      tiles = subst (λ (ls : List Line). GivesTiles port asked.tunables ls kernels) same tiles;
    })
    gives
