use Rattle.std.proofs.Common.{◌≡◌, ◌≤◌, ap, ◌∙◌, length, arith}
use Rattle.std.specs.Prelude.{nat_eq}
use Rattle.arena_rules.specs.PlainArena.{Plain}
use Rattle.arena_rules.specs.Rules.{Rules, Stop}
use Rattle.arena_rules.specs.Trim.{dropped_heaps, heap_cut}
use Rattle.consolidate_trim.proofs.HeapTrims.{trims_then}
use Rattle.consolidate_trim.proofs.trimming.trim_heap.Goals as goal

pub shorten-requires-clause-sound : goal.shorten-requires-clause-sound
shorten-requires-clause-sound g c κs within = (c.drop_heaps.ensures (λ x. Stop x)).gains.sound

pub shorten-requires-clause-other : goal.shorten-requires-clause-other
shorten-requires-clause-other g c κs within = ap (λ n. nat_eq n 0) (c.drop_heaps.ensures (λ x. Stop x)).number ∙ c.requires.other

pub overflow_sub-result : goal.overflow_sub-result
overflow_sub-result g c = omega (arith, c.system.ensures, c.system-before.ensures, (c.drop_heaps.ensures (λ x. Stop x)).less, c.shorten.ensures.less)

pub returns-clause-trims : goal.returns-clause-trims
returns-clause-trims g c = trims_then (c.drop_heaps.ensures (heap_cut c.args.t.now c.args.threshold)) c.shorten.ensures
