-- Pages, the length of a mapping, and the address that a user has: glibc 2.31 malloc/malloc.c, ALIGN_UP and ALIGN_DOWN by
-- the size of a page, sysmalloc where it maps, and chunk2mem.
use Rattle.std.specs.Prelude.{ℕ, ◌+◌, ◌*◌, ◌/◌}

-- the length of whole pages for so many bytes
abbrev pub page_up_of : ℕ → ℕ
page_up_of n = (n + 4095) / 4096 * 4096

-- the length of the whole pages in so many bytes
abbrev pub page_down_of : ℕ → ℕ
page_down_of n = n / 4096 * 4096

-- the length of the mapping for a chunk size: that and a size word, in whole pages
abbrev pub mapping_length : ℕ → ℕ
mapping_length nb = page_up_of (nb + 8)

-- the address that the user of a chunk has
abbrev pub user_address : ℕ → ℕ
user_address at = at + 16
