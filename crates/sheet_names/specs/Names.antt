-- The section of the names: `names t`, and one name a line, all different.
-- Assumes nothing.
use Rattle.std.specs.Prelude.{List, [], ℕ, ◌+◌}
use Rattle.sheet_lines.specs.Bytes.{bytes, text_of}
use Rattle.sheet_lines.specs.Count.{on_place, count_of}
use Rattle.sheet_lines.specs.Counting.{Counting, counting}
use Rattle.sheet_lines.specs.Line.{line_end}
use Rattle.sheet_lines.specs.Section.{Item, item, fault, section}
use Rattle.sheet_lines.specs.declared.Fault.TheVariants.{Sheet}
use Rattle.sheet_names.specs.Name.{is_name, is_new}
use Rattle.parsimony.specs.Test.{pick, both}

-- The name on the line at a place, after the names at earlier places: its item is its place. Anything but a name that
-- is none of the earlier ones is SHEET on the line.
unfoldable pub name_of : List ℕ → List ℕ → ℕ → ℕ → Item ℕ
unfolding pick both text_of on_place line_end is_name is_new
name_of sheet earlier at line =
    on_place (line_end sheet at) (fault (Sheet line))
    (λ end.
    pick (both (is_name (text_of sheet at end)) (is_new sheet earlier at)) (item at (end + 1)) (fault (Sheet line)))

-- the section of the names at a place and on a line: a count from 1 to 512, and as many names
unfoldable pub names_of : List ℕ → ℕ → ℕ → Counting ℕ
unfolding bytes count_of counting section name_of
names_of sheet at line =
    counting (count_of (bytes "names ") 1 512 sheet at line) (λ t next. section (name_of sheet) t next (line + 1) [])
