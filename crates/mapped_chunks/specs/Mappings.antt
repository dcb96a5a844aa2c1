-- Chunks in mappings of their own: glibc 2.31 malloc/malloc.c, sysmalloc where it maps, mremap_chunk, munmap_chunk, and
-- __libc_free where it raises the thresholds.
use Rattle.std.specs.Prelude.{◌≡◌, ◌≢◌, ℕ, ◌+◌, ◌-◌, ◌%◌, ◌<◌, ◌≤◌, Bool, true, false, ◌&&◌, nat_lt, nat_le, List, [], ◌∷◌, Option, Some, None, IfSome, IfNone, OnSome, Result, Ok, Err, IfOk, IfErr, OnOk, option_map, if◌then◌else◌}
use Rattle.chunk_tags.specs.Dials.{Dial, MmapThreshold}
use Rattle.chunk_tags.specs.Pages.{mapping_length}
use Rattle.chunk_tags.specs.Sizes.{IsChunkSize}
use Rattle.chunk_tags.specs.declared.block.Block.{Block}
use Rattle.address_space.specs.declared.asks.Back.{Back}
use Rattle.address_space.specs.declared.asks.Back.TheVariants as backs
use Rattle.address_space.specs.declared.space.Space.{Space}
use Rattle.address_space.specs.Ports.{Port}
use Rattle.address_space.specs.Spaces.{map_limit, MapsWithin, RemapsWithin, GivesWithin, LengthChange, length_change}
use Rattle.mapped_chunks.specs.DialPorts.{DialStep, Reads, Raises, Maps, Unmaps, Remaps, Dialled}

-- the chunk that fills a mapping
abbrev pub chunk_of_mapping : ℕ → ℕ → Block
chunk_of_mapping len at = record { addr = at; size = len; lead = 0; arena = None }

-- where the mapping of a chunk begins, and its bytes
abbrev pub mapping_start : Block → ℕ
mapping_start b = b.addr - b.lead

abbrev pub mapping_bytes : Block → ℕ
mapping_bytes b = b.lead + b.size

-- a chunk in a mapping: it belongs to no arena, it begins at a multiple of 16, and its mapping with a page and ends before
-- the end of the windows for mappings
pub record IsMapped (b : Block) : Type 0 where
  pub arena : b.arena ≡ None
  pub size : IsChunkSize b.size
  pub lead : b.lead ≤ b.addr
  pub place : b.addr % 16 ≡ 0
  pub page : mapping_start b % 4096 ≡ 0
  pub fits : b.addr + b.size ≤ map_limit

-- A mapping that was asked for: where it is granted, a chunk fills it, and it is counted.
pub record MapsChunk {K P : Type 0} (port : Port K) (dials : Dialled P) (old : Space K × P) (len : ℕ) (block : Option Block) (new : Space K × P) : Type 0 where
  pub asked : MapsWithin port old.0 len (option_map (λ b. b.addr) block) new.0
  pub chunk : IfSome block (λ b. b ≡ chunk_of_mapping len b.addr)
  pub counted : OnSome block (dials.step old.1 (Maps len) new.1)
  pub refused : IfNone block (new.1 ≡ old.1)

-- the length that the mapping of a chunk needs for a size: that, its lead and a size word, in whole pages
abbrev pub remap_length : Block → ℕ → ℕ
remap_length b nb = mapping_length (nb + b.lead)

-- the chunk behind the same lead in a mapping of a length
abbrev pub chunk_with_lead : ℕ → Block → ℕ → Block
chunk_with_lead len b start = record { addr = start + b.lead; size = len - b.lead; lead = b.lead; arena = None }

-- its mapping, with another length
abbrev pub mapping_change : Block → ℕ → LengthChange
mapping_change b len = length_change (mapping_start b) (mapping_bytes b) len

-- where the mapping then begins, if the ask was granted
abbrev pub granted_start : Result Block Block → Option ℕ
granted_start (Ok c) = Some (mapping_start c)
granted_start (Err c) = None

-- Another length that was asked for: where it is granted, the chunk fills the mapping behind its lead, and the new length
-- is counted in place of the old one. Where it is refused, the chunk is handed back as it was.
pub record ChangesLength {K P : Type 0} (port : Port K) (dials : Dialled P) (old : Space K × P) (b : Block) (len : ℕ) (block : Result Block Block) (new : Space K × P) : Type 0 where
  pub asked : RemapsWithin port old.0 (mapping_change b len) (granted_start block) new.0
  pub chunk : IfOk block (λ c. c ≡ chunk_with_lead len b (mapping_start c))
  pub counted : OnOk block (dials.step old.1 (Remaps (mapping_bytes b) len) new.1)
  pub refused : IfErr block (λ c. (c ≡ b) × (new.1 ≡ old.1))

-- A mapped chunk whose mapping shall have a length: where it has that, nothing is asked.
pub record RemapsChunk {K P : Type 0} (port : Port K) (dials : Dialled P) (old : Space K × P) (b : Block) (len : ℕ) (block : Result Block Block) (new : Space K × P) : Type 0 where
  pub same : len ≡ mapping_bytes b → (block ≡ Ok b) × (new ≡ old)
  pub other : len ≢ mapping_bytes b → ChangesLength port dials old b len block new

-- a word that no new length of a mapping changes, as a threshold
pub record IsFixed {P : Type 0} (dials : Dialled P) (word : P → ℕ) : Type 0 where
  pub stays : (p q : P) (old_len new_len : ℕ) → dials.step p (Remaps old_len new_len) q → word q ≡ word p

-- a chunk's mapping, its lead included, goes back
abbrev pub unmapping : Block → Back
unmapping b = backs.Unmap (mapping_start b) (mapping_bytes b)

-- it is counted no more
pub record UnmapsChunk {K P : Type 0} (port : Port K) (dials : Dialled P) (old : Space K × P) (b : Block) (new : Space K × P) : Type 0 where
  pub given : GivesWithin port old.0 (unmapping b) new.0
  pub counted : dials.step old.1 (Unmaps (mapping_bytes b)) new.1

-- the largest size to which the thresholds are raised, with the bit for a mapped chunk (DEFAULT_MMAP_THRESHOLD_MAX)
abbrev pub largest_threshold : ℕ
largest_threshold = 33554432

-- whether freeing a mapped chunk of a size raises the thresholds: its size word, with the bit for a mapped chunk, is above
-- the threshold, and at most the largest
abbrev pub is_raise : ℕ → ℕ → Bool
is_raise threshold size = nat_lt threshold (size + 2) && nat_le (size + 2) largest_threshold

-- one step, and what comes behind it
pub record StepThen {P : Type 0} (dials : Dialled P) (old : P) (s : DialStep) (Rest : P → Type 0) : Type 0 where
  pub next : P
  pub step : dials.step old s next
  pub rest : Rest next

-- several steps, one after another
abbrev pub AllSteps : {P : Type 0} → Dialled P → P → List DialStep → P → Type 0
AllSteps dials old [] new = new ≡ old
AllSteps dials old (s ∷ ss) new = StepThen dials old s (λ next. AllSteps dials next ss new)

-- What is done at the words when a mapped chunk is freed, the threshold being what was read: where the thresholds are
-- dynamic they may be raised first.
abbrev pub freeing_steps : Bool → Block → ℕ → List DialStep
freeing_steps false b threshold = Unmaps (mapping_bytes b) ∷ []
freeing_steps true b threshold =
    Reads MmapThreshold threshold ∷ (if is_raise threshold b.size then Raises b.size ∷ Unmaps (mapping_bytes b) ∷ [] else Unmaps (mapping_bytes b) ∷ [])

-- A mapped chunk is freed.
pub record FreesChunk {K P : Type 0} (port : Port K) (dials : Dialled P) (old : Space K × P) (dynamic : Bool) (b : Block) (new : Space K × P) : Type 0 where
  pub given : GivesWithin port old.0 (unmapping b) new.0
  pub threshold : ℕ
  pub steps : AllSteps dials old.1 (freeing_steps dynamic b threshold) new.1

-- a size to which the thresholds may be raised
pub record MayRaise (threshold size : ℕ) : Type 0 where
  pub whole : size % 16 ≡ 0
  pub above : threshold < size + 2
  pub limit : size + 2 ≤ largest_threshold

-- What a port keeps allowing while a mapped chunk is freed: reading a word changes nothing of it; raising the thresholds
-- doesn't change which mapping may be counted no more; and they may be raised above a threshold that was read.
pub record IsSteady {P : Type 0} (dials : Dialled P) : Type 0 where
  pub reads : (p q : P) (w : Dial) (n : ℕ) (s : DialStep) → dials.step p (Reads w n) q → dials.allows p s → dials.allows q s
  pub raises : (p q : P) (size len : ℕ) → dials.step p (Raises size) q → dials.allows p (Unmaps len) → dials.allows q (Unmaps len)
  pub above : (p q : P) (n size : ℕ) → dials.step p (Reads MmapThreshold n) q → MayRaise n size → dials.allows q (Raises size)
