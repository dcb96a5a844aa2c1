-- What a hold does to the mapped chunks that its port shows (this project's own).
use Rattle.std.specs.Prelude.{◌≡◌, ℕ, ◌+◌, ◌%◌, ◌≤◌, ◌⊎◌}
use Rattle.chunk_tags.specs.Dials.{Dial}
use Rattle.chunk_tags.specs.Pages.{mapping_length}
use Rattle.chunk_tags.specs.declared.tiles.Chunk.{Chunk}
use Rattle.address_space.specs.Spaces.{map_place, map_limit}
use Rattle.fast_bins.specs.FastPorts.{Fast, FastStep}
use Rattle.mapped_chunks.specs.DialPorts.{Dialled, Maps, Reads}
use Rattle.arena_rules.specs.Growth.{Took, InMapping}
use Rattle.consolidate_trim.specs.Outside.{Outside}

-- how many mapped chunks there are, and the bytes of their mappings
pub record MappedShown : Type 0 where
  pub count : ℕ
  pub bytes : ℕ

-- one more, of so many bytes
abbrev pub counted_in : ℕ → MappedShown → MappedShown
counted_in len s = record { count = s.count + 1; bytes = s.bytes + len }

-- What a port shows follows the counts alone: nothing else that a hold does changes it.
pub record ShowsMapped {P : Type 0} (fast : Fast P) (dials : Dialled P) (shown : P → MappedShown) : Type 0 where
  pub maps : (p q : P) (len : ℕ) → dials.step p (Maps len) q → shown q ≡ counted_in len (shown p)
  pub reads : (p q : P) (which : Dial) (n : ℕ) → dials.step p (Reads which n) q → shown q ≡ shown p
  pub steps : (p q : P) (s : FastStep) → fast.step p s q → shown q ≡ shown p
  pub idles : (p q : P) → fast.idle p q → shown q ≡ shown p

-- A mapped chunk that a hold found: it alone was counted, it is as long as the request needs, and it has the next place of
-- the thread's window for mappings, a page's.
pub record IsCounted {P K : Type 0} (shown : P → MappedShown) (nb : ℕ) (o z : Outside P K) (c : Chunk) : Type 0 where
  pub shows : shown z.port ≡ counted_in c.size (shown o.port)
  pub length : c.size ≡ mapping_length nb
  pub place : c.at ≡ map_place o.space
  pub behind : c.at + c.size ≡ map_place z.space
  pub page : c.at % 4096 ≡ 0
  pub limit : c.at + c.size ≤ map_limit

-- Where a hold ended: a mapped chunk that it found is what was counted, and no more bytes were counted than the thread's
-- window for mappings gave.
pub record EndsCounted {P K : Type 0} (shown : P → MappedShown) (nb : ℕ) (o z : Outside P K) (x : Took) : Type 0 where
  pub none : ((c : Chunk) → x.found ≡ InMapping c → ⊥) → shown z.port ≡ shown o.port
  pub one : (c : Chunk) → x.found ≡ InMapping c → IsCounted shown nb o z c
  pub bytes : (shown z.port).bytes + o.space.mapped ≤ (shown o.port).bytes + z.space.mapped

-- Where it was left for want of memory: nothing was counted, or one mapping that is as long as the request needs, behind
-- which a resize goes on; and no more bytes were counted than the thread's window for mappings gave.
pub record StopsCounted {P K : Type 0} (shown : P → MappedShown) (nb : ℕ) (o z : Outside P K) : Type 0 where
  pub counts : (shown z.port ≡ shown o.port) ⊎ (shown z.port ≡ counted_in (mapping_length nb) (shown o.port))
  pub bytes : (shown z.port).bytes + o.space.mapped ≤ (shown o.port).bytes + z.space.mapped
