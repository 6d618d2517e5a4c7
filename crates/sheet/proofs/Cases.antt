-- Whole sheets, sound and refused, by computation.
-- Assumes nothing.
use mathlib.Core.List.{[], ◌∷◌}
use mathlib.Core.Path.{◌≡◌, refl}
use Prim.Native.String.{String}
use Rattle.sheet_costs.specs.Costs.{unit_table}
use Rattle.sheet_lines.specs.Bytes.{bytes}
use Rattle.sheet_lines.specs.declared.Fault.TheVariants.{Sheet, Symbol, TreeText}
use Rattle.sheet_tips.specs.Vine.{tip, pair}
use Rattle.sheet.specs.Judge.{Judged, sound, faulty, judge}
use Rattle.sheet.specs.Table.{cells_of}

-- what the text of a sheet comes to
unfoldable judged : String → Judged
unfolding judge bytes
judged text = judge (bytes text)

-- the paper's sheet
paper : judged "names 3\na\nb\nc\ncolumns 2\nAC\nAT\nGT\ncosts 0\ntree 1\n((a,b),c);\n"
    ≡ sound (record {
      tips = 3;
      columns = 2;
      cells = 24;
      costs = unit_table;
      vine = pair (pair (tip 0) (tip 1)) (tip
          2);
    })
unfolding judged unit_table
paper = refl

-- its two columns: A, A, G and C, T, T
paper_cells : cells_of (bytes "names 3\na\nb\nc\ncolumns 2\nAC\nAT\nGT\ncosts 0\ntree 1\n((a,b),c);\n")
    (record { tips = 3; columns = 2; cells = 24; costs = []; vine = tip 0 }) 1 ≡ 2 ∷ 8 ∷ 8 ∷ []
unfolding cells_of bytes
paper_cells = refl

-- the letter J in a cell line
letter_j : judged "names 3\na\nb\nc\ncolumns 2\nAC\nAJ\nGT\ncosts 0\ntree 1\n((a,b),c);\n" ≡ faulty (Symbol 7)
unfolding judged
letter_j = refl

-- a bad byte on a later line does not hide it, and one on the same line comes first
j_and_later : judged "names 3\na\nb\nc\ncolumns 2\nAC\nAJ\nG\tT\ncosts 0\ntree 1\n((a,b),c);\n" ≡ faulty (Symbol 7)
unfolding judged
j_and_later = refl

j_and_tab : judged "names 3\na\nb\nc\ncolumns 2\nAC\nJ\t\nGT\ncosts 0\ntree 1\n((a,b),c);\n" ≡ faulty (Sheet 7)
unfolding judged
j_and_tab = refl

-- a name that is missing in the tree
name_missing : judged "names 2\na\nb\ncolumns 0\n\n\ncosts 0\ntree 1\na;\n" ≡ faulty (TreeText 9)
unfolding judged
name_missing = refl

-- a tree line without its end, whatever it holds
no_line_end : judged "names 1\na\ncolumns 0\n\ncosts 0\ntree 1\na;" ≡ faulty (Sheet 7)
unfolding judged
no_line_end = refl

-- something after the tree line, and a fault of the tree line before that
after_tree_lem : judged "names 1\na\ncolumns 0\n\ncosts 0\ntree 1\na;\n\n" ≡ faulty (Sheet 8)
unfolding judged
after_tree_lem = refl

tree_then_after : judged "names 1\na\ncolumns 0\n\ncosts 0\ntree 1\nb;\n\n" ≡ faulty (TreeText 7)
unfolding judged
tree_then_after = refl

-- no tree line
no_tree_line : judged "names 1\na\ncolumns 0\n\ncosts 0\ntree 1\n" ≡ faulty (Sheet 7)
unfolding judged
no_tree_line = refl

-- an empty file
empty : judged "" ≡ faulty (Sheet 1)
unfolding judged
empty = refl
