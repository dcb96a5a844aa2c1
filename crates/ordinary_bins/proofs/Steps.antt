-- Each call on links, seen as lists.
use Rattle.std.proofs.Common.{◌≡◌, ℕ, ◌^◌, ◌<◌, ◌≤◌, List, sym, ap, ◌∙◌, subst, arith, map}
use Rattle.std.proofs.Math.Path.{fun_ext}
use Rattle.part_words.specs.Extents.{IsOpen}
use Rattle.ordinary_bins.specs.Lists.{Linked, bin_count, times_listed, without, put_behind, put_front, empty_lists}
use Rattle.ordinary_bins.specs.Rings.{lists_of, IsNode, Spells, Skips, Splices}
use Rattle.ordinary_bins.specs.NodeWords.{codes_at, no_codes, links_at, ahead, back, extent, linked_of, AreLinked, IsFresh}
use Rattle.ordinary_bins.specs.declared.nodes.Links.{Links}
use Rattle.ordinary_bins.specs.declared.nodes.Nodes.{Nodes}
use Rattle.ordinary_bins.proofs.NodeLinks.{leads_nowhere}
use Rattle.ordinary_bins.proofs.Paths.{Amid}
use Rattle.ordinary_bins.proofs.Reading.{spells_none}
use Rattle.ordinary_bins.proofs.Spelling.{spelled, amid_nodes, unlinked, inserted, put_in_front, IsNew}

-- nodes that are seen as these lists
pub record Seen (nodes : Nodes) (v : Linked) : Type 0 where
  pub linked : AreLinked nodes
  pub view : linked_of nodes ≡ v

pub spells : {nodes : Nodes} {v : Linked} → Seen nodes v → Spells (ahead nodes) (back nodes) v.extent v.lists
spells {nodes} s = subst (λ (w : Linked). Spells (ahead nodes) (back nodes) w.extent w.lists) s.view s.linked

-- nodes after a call
pub record Becomes (nodes : Nodes) (lists : List (List ℕ)) : Type 0 where
  pub linked : AreLinked nodes
  pub lists_are : lists_of (ahead nodes) ≡ lists

becomes : {nodes nodes' : Nodes} {v : Linked} {lists : List (List ℕ)} → Seen nodes v → extent nodes' ≡ extent nodes → Spells (ahead nodes') (back nodes') v.extent lists → Becomes nodes' lists
becomes {nodes} {nodes'} {v} {lists} s same h =
    let e : v.extent ≡ extent nodes' = sym (same ∙ ap (λ (w : Linked). w.extent) s.view) in
    let is = spelled h in
    record {
      linked = subst (λ x. Spells (ahead nodes') (back nodes') x (lists_of (ahead nodes'))) e (subst (Spells (ahead nodes') (back nodes') v.extent) (sym is) h);
      lists_are = is;
    }

-- the same links, where other words are open
pub reopened : {nodes nodes' : Nodes} {v : Linked} → Seen nodes v → ((n : ℕ) → links_at nodes' n ≡ links_at nodes n) → ((n : ℕ) → IsOpen (extent nodes) n → IsOpen (extent nodes') n) → Becomes nodes' v.lists
reopened {nodes} {nodes'} {v} s same more =
    let h = s.linked in
    let fd : ahead nodes' ≡ ahead nodes = fun_ext (λ n. ap (λ (l : Links). l.fd) (same n)) in
    let bk : back nodes' ≡ back nodes = fun_ext (λ n. ap (λ (l : Links). l.bk) (same n)) in
    let wide : Spells (ahead nodes) (back nodes) (extent nodes') (lists_of (ahead nodes)) = record {
      width = h.width;
      unused = h.unused;
      rings = h.rings;
      once = h.once;
      places = λ n k. record { high = (h.places n k).high; fits = (h.places n k).fits; word = more n (h.places n k).word };
      idle = h.idle;
    } in
    record {
      linked = subst (λ f. Spells f (back nodes') (extent nodes') (lists_of f)) (sym fd) (subst (λ b. Spells (ahead nodes) b (extent nodes') (lists_of (ahead nodes))) (sym bk) wide);
      lists_are = ap lists_of fd ∙ ap (λ (w : Linked). w.lists) s.view;
    }

pub neighbours : {nodes : Nodes} {v : Linked} → Seen nodes v → (at : ℕ) → 1 ≤ times_listed at v.lists → Amid (ahead nodes) (back nodes) (IsNode (extent nodes)) at
neighbours s at k = amid_nodes s.linked at (omega (arith, k, ap (λ (w : Linked). times_listed at w.lists) s.view))

pub is_chunk : {nodes : Nodes} {v : Linked} → Seen nodes v → (at : ℕ) → 1 ≤ times_listed at v.lists → bin_count ≤ at
is_chunk s at k = ((spells s).places at k).high

pub unlink_step : {nodes nodes' : Nodes} {v : Linked} {at : ℕ} → Seen nodes v → 1 ≤ times_listed at v.lists → Skips (ahead nodes) (back nodes) (ahead nodes') (back nodes') at → codes_at nodes' at ≡ no_codes → extent nodes' ≡ extent nodes → Becomes nodes' (map (without at) v.lists)
unlink_step {nodes' = nodes'} s k skips cleared same = becomes s same (unlinked (spells s) k skips (leads_nowhere nodes' _ cleared))

pub insert_step : {nodes nodes' : Nodes} {v : Linked} {after at : ℕ} → Seen nodes v → IsNew v.extent v.lists at → at < 2 ^ 64 → 1 ≤ times_listed after v.lists → Splices (ahead nodes) (back nodes) (ahead nodes') (back nodes') after at → extent nodes' ≡ extent nodes → Becomes nodes' (map (put_behind after at) v.lists)
insert_step s new fits k splices same = becomes s same (inserted (spells s) new fits k splices)

pub front_step : {nodes nodes' : Nodes} {v : Linked} {bin at : ℕ} → Seen nodes v → IsNew v.extent v.lists at → at < 2 ^ 64 → 0 < bin → bin < bin_count → Splices (ahead nodes) (back nodes) (ahead nodes') (back nodes') bin at → extent nodes' ≡ extent nodes → Becomes nodes' (put_front bin at v.lists)
front_step s new fits used lt splices same = becomes s same (put_in_front (spells s) new fits used lt splices)

pub new_step : {nodes : Nodes} → IsFresh nodes → Becomes nodes empty_lists
new_step {nodes} fresh =
    let h = spells_none (ahead nodes) (back nodes) (extent nodes) fresh.own fresh.chunks in
    let is = spelled h in
    record { linked = subst (Spells (ahead nodes) (back nodes) (extent nodes)) (sym is) h; lists_are = is }
