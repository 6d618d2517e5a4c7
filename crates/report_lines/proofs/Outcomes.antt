-- No second outcome meets the promise of a line's writer.
-- Assumes nothing.
use mathlib.Core.List.{List, ◌++◌}
use mathlib.Core.Path.{◌≡◌, sym, ◌∙◌}
use Prim.Native.Nat.{ℕ, ◌+◌, ◌<◌}
use lib.ListN.{length, drop}
use Rattle.promises.specs.CallRules.{Allowed}
use Rattle.promises.specs.Input.{Input}
use Rattle.promises.proofs.Outcomes.{work_unique}
use Rattle.report_text.specs.Puts.{Puts, text_in}
use Rattle.report_text.specs.Starts.{StartsWith}
use Rattle.report_text.specs.declared.Text.{Text}
use Rattle.report_text.proofs.PutLaws.{puts_list}
use Rattle.report_lines.specs.Line.{column_line}
use Rattle.report_lines.specs.Reports.{Reported}

-- one line only starts with a text and is as before after it
pub starts_unique : {text line a b : List ℕ} {i j : ℕ} → StartsWith text line a i → StartsWith text line b j → (a ≡ b) ×
    (i ≡ j)
starts_unique f g = (f.bytes ∙ sym g.bytes, f.long ∙ sym g.long)

-- one text only is another with a line added
pub added_unique : (text line : List ℕ) {a b : List ℕ} → a ≡ line ++ text → b ≡ line ++ text → a ≡ b
added_unique text line f g = f ∙ sym g

-- one list only has these bytes put into it
pub puts_unique : (bytes : List ℕ) (t u v : Text) → Puts bytes t u → Puts bytes t v
    → (u.list.now ≡ v.list.now) × (u.len ≡ v.len)
puts_unique bytes t u v f g = (
  added_unique (drop (t.len + length bytes) t.list.now) (text_in t ++ bytes) (puts_list f) (puts_list g),
  f.end ∙ sym g.end,
)

-- no second outcome of a column's line
pub report_outcome : (I : Input) → Allowed I → 0 < I.c → (number : ℕ) (states sets rows : List ℕ) (line : Text)
    (k m : ℕ) (l1 s1 r1 : List ℕ) (t1 : Text) (l2 s2 r2 : List ℕ) (t2 : Text)
    → Reported I number states sets rows line k l1 s1 r1 t1
    → Reported I number states sets rows line m l2 s2 r2 t2
    → ((t1.len ≡ t2.len) × (k ≡ m)) × (l1 ≡ l2) × (s1 ≡ s2) × (r1 ≡ r2) × (t1.list.now ≡ t2.list.now)
report_outcome I table inside number states sets rows line k m l1 s1 r1 t1 l2 s2 r2 t2 f g =
    let text = puts_unique (column_line I number) line t1 t2 f.text g.text in
    let same = work_unique I table 0 inside states sets rows k m l1 s1 r1 l2 s2 r2 f.worked g.worked in
    let lists = same.1 in
    ((text.1, same.0), lists.0, lists.1, lists.2, text.0)
