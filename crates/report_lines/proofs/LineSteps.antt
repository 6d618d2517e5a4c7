-- The lines put part by part.
-- Assumes nothing.
use Rattle.std.proofs.Common.{◌≡◌, ℕ, List, [], ◌∷◌, ◌++◌, length, take, drop, ap, ap₂, sym, subst, ◌∙◌}
use Rattle.std.proofs.Math.Seq.{take-append_seam}
use Rattle.report_text.specs.Decimal.{decimal}
use Rattle.report_text.specs.Puts.{Puts}
use Rattle.report_text.specs.declared.Text.{Text}
use Rattle.report_text.specs.Starts.{StartsWith}
use Rattle.report_text.proofs.PutLaws.{puts_then, puts_starts}
use Rattle.report_marks.proofs.LetterLaws.{letters_length}
use Rattle.report_lines.specs.Frame.{word_line, number_line, refused_line}
use Rattle.report_lines.specs.Line.{field, line_text}
use Rattle.report_lines.proofs.LineLaws.{field_length, line_length, word_length, refused_bytes}

-- a number and a space are a field
pub puts_field : (n : ℕ) (t u v : Text) → Puts (decimal n) t u → Puts (32 ∷ []) u v → Puts (field n) t v
unfolding field
puts_field n t u v f g = puts_then f g

-- the five parts are a line
pub puts_line : (number score quiet ones : ℕ) (labels : List ℕ) (t u v w x y : Text) → Puts (field number) t u
    → Puts (field score) u v → Puts (field quiet) v w → Puts (field ones) w x → Puts labels x y
    → Puts (line_text number score quiet ones labels) t y
unfolding line_text
puts_line number score quiet ones labels t u v w x y a b c d e =
    puts_then (puts_then (puts_then (puts_then a b) c) d) e

-- a word and a number are put one after the other
pub puts_word : (word : List ℕ) (n : ℕ) (t u v : Text) → Puts word t u → Puts (decimal n) u v
    → Puts (word_line word n) t v
unfolding word_line
puts_word word n t u v f g = puts_then f g

-- and then a line end
pub puts_number_line : (word : List ℕ) (n : ℕ) (t u v : Text) → Puts (word_line word n) t u → Puts (10 ∷ []) u v
    → Puts (number_line word n) t v
unfolding number_line
puts_number_line word n t u v f g = puts_then f g

-- or a second number between a space and a line end
pub puts_refused_line : (number place : ℕ) (t u v w x : Text)
    → Puts (word_line (114 ∷ 101 ∷ 102 ∷ 117 ∷ 115 ∷ 101 ∷ 100 ∷ 32 ∷ []) number) t u → Puts (32 ∷ []) u v
    → Puts (decimal place) v w → Puts (10 ∷ []) w x → Puts (refused_line number place) t x
puts_refused_line number place t u v w x a b c d =
    subst (λ bytes. Puts bytes t x) (sym (refused_bytes number place)) (puts_then (puts_then (puts_then a b) c) d)

-- a line put at the start of a list is the list's first bytes
pub framed : (bytes : List ℕ) (t t' : Text) → t.len ≡ 0 → Puts bytes t t' → take t'.len t'.list.now ≡ bytes
framed bytes t t' none f = f.text ∙ ap (λ k. take k t.list.now ++ bytes) none

-- a list that starts with a line has it for its first bytes
pub started : (text before after : List ℕ) (size : ℕ) → StartsWith text before after size → take size after ≡ text
started text before after size f = ap₂ take f.long f.bytes ∙ take-append_seam text (drop (length text) before)

-- what is put over the start of a list is what the list starts with
pub starts_over : (bytes list : List ℕ) (t t' : Text) → t.len ≡ 0 → t.list.now ≡ list → Puts bytes t t'
    → StartsWith bytes list t'.list.now t'.len
starts_over bytes list t t' none same f =
    subst (λ l. StartsWith bytes l t'.list.now t'.len) same (puts_starts none f)

-- what a field needs, what a line, and what a word and a number
pub ruleset field_steps = (field_length, puts_field)

pub ruleset line_steps = (line_length, puts_line, letters_length)

pub ruleset put_word_steps = (word_length, puts_word)
