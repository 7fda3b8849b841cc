-- The code's entries as pairs.
use Rattle.std.specs.Prelude.{List}
use Rattle.tree.specs.Nodes.{Entry, entries_of}
use Rattle.tree.specs.declared.entries.Entry.{Entry as EntryRead}
use Rattle.tree.specs.declared.entries.Entries.{Entries}

abbrev pub pair : EntryRead → Entry
pair e = (e.key, e.value)

-- the entries that are still to read
abbrev pub left : Entries → List Entry
left s = entries_of s.count s.bytes.now
