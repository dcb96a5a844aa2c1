use Rattle.std.proofs.Common.{sym, ap, ◌∙◌, arith}
use Rattle.ordinary_bins.specs.Lists.{list_at}
use Rattle.ordinary_bins.proofs.ListLaws.{bin_of_listed}
use Rattle.large_bins.specs.Places.{first_of_size}
use Rattle.large_bins.specs.SeenChunks.{size_at}
use Rattle.large_bins.proofs.Ends.{begins_with, next_listed, no_first, stands_at}
use Rattle.large_bins.proofs.FirstLaws.{one_of_size, other_size}
use Rattle.large_bins.proofs.bins.equal_behind.Goals as goal

pub returns-in_err-next : goal.returns-in_err-next
returns-in_err-next c = λ bin front back lt split.
    let none = no_first back (sym (c.next.ensures bin front back lt split) ∙ c.in_err-next.was) in
    c.from_residual.ensures ∙ sym (ap (first_of_size (size_at c.args.tiles.now.tiles) (size_at c.args.tiles.now.tiles c.args.at)) none)

pub size_of-requires : goal.size_of-requires
size_of-requires c =
    let lists = c.args.links.now.lists in
    let next = c.in_ok-next.next in
    let i = bin_of_listed c.args.at lists c.requires.listed in
    let s = stands_at c.args.at (list_at i.bin lists) i.stands in
    let b = begins_with s.back next (sym (c.next.ensures i.bin s.front s.back (omega (arith, i.below, c.laws.ensures.width)) s.split) ∙ c.in_ok-next.was) in
    c.requires.tiles.each next (next_listed next c.args.at i.bin lists s.front s.back b.back s.split b.is)

pub returns-then-size_of : goal.returns-then-size_of
returns-then-size_of c = λ bin front back lt split.
    sym (one_of_size _ _ c.in_ok-next.next back (sym (c.next.ensures bin front back lt split) ∙ c.in_ok-next.was) (sym c.size_of.ensures ∙ (c.if-size_of.true ∙ c.size_of-2.ensures)))

pub returns-else-size_of : goal.returns-else-size_of
returns-else-size_of c = λ bin front back lt split.
    sym (other_size _ _ c.in_ok-next.next back (sym (c.next.ensures bin front back lt split) ∙ c.in_ok-next.was) (λ e. c.if-size_of.false (c.size_of.ensures ∙ (e ∙ sym c.size_of-2.ensures))))
