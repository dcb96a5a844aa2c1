use Rattle.std.proofs.Common.{◌≡◌, ◌+◌, ◌≤◌, ◌++◌, None, length, replicate, vec_capacity}
use Rattle.block_names.proofs.near.append_places.Given as goal

abbrev pub invariant-loop-n : goal.invariant-loop-n
invariant-loop-n l = record {
  items : l.row.items ≡ l.fn.row.items ++ replicate l._n None;
  room : length l.fn.row.items + l.count ≤ vec_capacity l.row;
}
