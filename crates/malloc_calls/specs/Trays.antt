-- A block goes from one thread to another by a tray (this project's own).
use Rattle.std.specs.Prelude.{ℕ, Option, Some, None, Result, Ok, Err}
use Rattle.chunk_tags.specs.declared.block.Block.{Block}
use Rattle.arena_holds.specs.Calls.{Call, Done, Posts, Takes}
use Rattle.own_blocks.specs.Frees.{without_name}
use Rattle.block_names.specs.Names.{block_at, with_block}
use Rattle.own_blocks.specs.declared.own.Own.{Own}
use Rattle.own_blocks.specs.declared.reply.Reply.{Reply}
use Rattle.own_blocks.specs.declared.reply.Reply.TheVariants.{NotYours, Posted, Taken, Missed}

-- a name's block is posted; where the tray isn't empty the name keeps it
abbrev pub post_end : ℕ → Own → Option ℕ → Reply × Own
post_end name own None = (Posted, without_name name own)
post_end name own (Some seen) = (Missed seen, own)

abbrev pub post_of_name : ℕ → ℕ → Option Block → Own → Call (Reply × Own)
post_of_name name tray None own = Done (NotYours, own)
post_of_name name tray (Some b) own = Posts tray b (λ full. Done (post_end name own full))

abbrev pub post_call : ℕ → ℕ → Own → Call (Reply × Own)
post_call name tray own = post_of_name name tray (block_at own.names name) own

-- a tray's block gets a name, or there is none
abbrev pub take_end : ℕ → Own → Result Block ℕ → Reply × Own
take_end name own (Ok b) = (Taken b.addr b.size, record own { names = with_block name b own.names })
take_end name own (Err seen) = (Missed seen, own)

abbrev pub take_call : ℕ → ℕ → Own → Call (Reply × Own)
take_call name tray own = Takes tray (λ found. Done (take_end name own found))
