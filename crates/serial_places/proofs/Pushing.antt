-- A block that is given out isn't in a fast bin: what a push of it needs.
use Rattle.std.proofs.Common.{◌≡◌, ℕ, false, Option, Some, ap, ◌∙◌, arith}
use Rattle.chunk_tags.specs.BinOrder.{fast_chunk}
use Rattle.chunk_tags.specs.Sizes.{IsChunkSize, fast_index_of}
use Rattle.chunk_tags.specs.Tiles.{is_used}
use Rattle.chunk_tags.specs.declared.block.Block.{Block}
use Rattle.chunk_tags.specs.declared.tiles.Chunk.{Chunk}
use Rattle.fast_bins.specs.PlainBins.{plain_fast}
use Rattle.arena_rules.proofs.Counts.{at_most_once}
use Rattle.consolidate_trim.proofs.HoldSteps.{fast_chunk_is}
use Rattle.serial_places.specs.declared.serial.Serial.TheInside.{Inside}
use Rattle.serial_places.specs.declared.slot.Slot.{Slot}
use Rattle.serial_places.specs.SerialWays.{SerialState, KeptSlot, IsSerial, IsKeptIn, Serves, slot_in, stock_in, used_in, kept_slot}
use Rattle.serial_places.specs.LawsOfPlaces.{chunk_in, own_chunk}
use Rattle.serial_places.proofs.Insides.{seen, slot_seen, now_serial}
use Rattle.serial_places.proofs.SerialKeeps.{kept_at}

pub fresh_slot : (i : Inside) (now : SerialState) (n : ℕ) (s : Slot) (b : Block) (bin : ℕ) → seen i ≡ now → IsSerial (seen i) → slot_in i.arenas.items n ≡ Some s → b.arena ≡ Some n → IsChunkSize b.size → bin ≡ fast_index_of b.size →
    Serves false now (λ weigh. weigh b) → plain_fast.stock s.bins (fast_chunk bin b.addr) ≡ 0
fresh_slot i now n s b bin view inside at arena chunk is serves =
    let e : Chunk = chunk_in b in
    let here : slot_in now.slots n ≡ Some (kept_slot s) = slot_seen i now n s view at in
    let kept : IsKeptIn now.tunables now.book.list n (kept_slot s) = kept_at now n (kept_slot s) here (now_serial i now view inside) in
    let same : fast_chunk bin b.addr ≡ e = ap (λ (k : ℕ). fast_chunk k b.addr) is ∙ fast_chunk_is e chunk in
    ap (plain_fast.stock s.bins) same
    ∙ omega (
      arith,
      serves.chunks n e,
      own_chunk b n arena,
      ap (λ (o : Option KeptSlot). stock_in o e) here,
      ap (λ (o : Option KeptSlot). used_in o e) here,
      at_most_once is_used e (kept_slot s).kept.arena.tiles kept.kept.sound.row,
    )
