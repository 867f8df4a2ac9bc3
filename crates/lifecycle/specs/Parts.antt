-- Parts of a store: where the content of an object or an FDT stands.
use Rattle.std.specs.Prelude.{Bool, ℕ, ◌+◌, min, max, ltb}
use Rattle.lifecycle.specs.declared.parts.Part.{Part}

-- the first place behind a part
abbrev pub part_end : Part → ℕ
part_end c = c.start + c.size

-- do two parts share a byte; an empty one shares none
unfoldable pub shares : Part → Part → Bool
shares a b = ltb (max a.start b.start) (min (part_end a) (part_end b))

-- does a part end past a store of this length
unfoldable pub past_store : ℕ → Part → Bool
past_store n c = ltb n (part_end c)
