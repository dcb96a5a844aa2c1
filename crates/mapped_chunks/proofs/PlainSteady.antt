-- The words for one order of calls are steady, and no new length of a mapping changes most of them. Other crates may cite
-- this file.
use Rattle.std.proofs.Common.{◌≡◌, ◌*◌, subst, sym, ap}
use Rattle.mapped_chunks.specs.Mappings.{IsSteady, IsFixed, MayRaise}
use Rattle.mapped_chunks.specs.PlainDials.{Allows, MayUnmap, plain_dials}
use Rattle.mapped_chunks.specs.declared.plain.DialState.{DialState}
use Rattle.mapped_chunks.specs.declared.plain.PlainDials.{PlainDials}

pub plain_steady : IsSteady plain_dials
plain_steady = record {
  reads = λ p q w n s step may. let e : q.state ≡ p.state = ap (λ (d : PlainDials). d.state) step.1 in subst (λ (d : DialState). Allows d s) (sym e) may;
  raises = λ p q size len step may.
      let e : q.state ≡ record p.state { mmap_threshold = size; trim_threshold = 2 * size } = ap (λ (d : PlainDials). d.state) step.1 in
      subst (λ (d : DialState). MayUnmap d len) (sym e) (record { count = may.count; bytes = may.bytes });
  above = λ p q n size step may.
      let e : q.state ≡ p.state = ap (λ (d : PlainDials). d.state) step.1 in
      subst (λ (d : DialState). MayRaise d.mmap_threshold size) (sym e) (subst (λ t. MayRaise t size) step.0 may);
}

pub plain_mmap_threshold_fixed : IsFixed plain_dials (λ d. d.state.mmap_threshold)
plain_mmap_threshold_fixed = record { stays = λ p q old_len new_len step. ap (λ (d : PlainDials). d.state.mmap_threshold) step.1 }

pub plain_trim_threshold_fixed : IsFixed plain_dials (λ d. d.state.trim_threshold)
plain_trim_threshold_fixed = record { stays = λ p q old_len new_len step. ap (λ (d : PlainDials). d.state.trim_threshold) step.1 }

pub plain_count_fixed : IsFixed plain_dials (λ d. d.state.mapped)
plain_count_fixed = record { stays = λ p q old_len new_len step. ap (λ (d : PlainDials). d.state.mapped) step.1 }
