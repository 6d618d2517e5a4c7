-- What a function makes of each byte of a text, after another text.
-- Assumes nothing.
use Rattle.std.specs.Prelude.{List, ℕ}
use Rattle.std.specs.List.{AllZip}
use Rattle.report_text.specs.Puts.{Puts}
use Rattle.report_text.specs.declared.Text.{Text}

-- for each byte of the text, one that f gives for it is put
abbrev pub Mapped : (ℕ → ℕ → Type 0) → List ℕ → Text → Text → Type 0
Mapped f text t t' = (made : List ℕ) × AllZip f text made × Puts made t t'
