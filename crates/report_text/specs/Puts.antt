-- What is put at the end of a text, which stands at the start of a list that is lent.
-- Assumes nothing.
use Rattle.std.specs.Prelude.{List, ◌++◌, ◌≡◌, ℕ, ◌+◌, ◌≤◌, length, take, drop}
use Rattle.report_text.specs.declared.Text.{Text}

-- the text: the first len bytes of the list
abbrev pub text_in : Text → List ℕ
text_in t = take t.len t.list.now

-- the text is in its list: it is no longer than the list
abbrev pub InList : Text → Type 0
InList t = t.len ≤ length t.list.now

-- the list has room for these bytes after the text
abbrev pub Fits : List ℕ → Text → Type 0
Fits bytes t = t.len + length bytes ≤ length t.list.now

-- the text is taken away: its bytes are room again
abbrev pub cleared : Text → Text
cleared t = record t { len = 0 }

-- these bytes are put at the end of the text; the list is as before after them, and still the one that was lent
pub record Puts (bytes : List ℕ) (t t' : Text) : Type 0 where
  pub text : text_in t' ≡ text_in t ++ bytes
  pub end : t'.len ≡ t.len + length bytes
  pub rest : drop t'.len t'.list.now ≡ drop t'.len t.list.now
  pub size : length t'.list.now ≡ length t.list.now
  pub same : t'.list.ghost_name ≡ t.list.ghost_name
