-- For callers: a sound map whose lengths fit is one to look up in.
use Rattle.std.specs.Prelude.{◌≡◌, true}
use Rattle.definitions.specs.Tree.{Rule}
use Rattle.definitions.specs.Tables.{Tables, lengths_fit, sound}
use Rattle.meaning.specs.Sound.{sound→}
use Rattle.tables.specs.Lent.{lines_short, nodes_short, listings_short}
use Rattle.path.specs.Placed.{Mapped}

pub mapped : (rule : Rule) (t : Tables) → lengths_fit t ≡ true → sound rule t ≡ true → Mapped t.lines t.nodes t.listings
mapped rule t e s =
    record {
      rule = rule;
      sound = sound→ rule t s;
      few_lines = lines_short t.lines t.nodes t.listings e;
      few_nodes = nodes_short t.lines t.nodes t.listings e;
      few_listings = listings_short t.lines t.nodes t.listings e;
    }
