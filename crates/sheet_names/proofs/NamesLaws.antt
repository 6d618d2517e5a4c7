-- What a section of names says: 1 to 512 names, well formed and all different; or the first line that is no such name.
-- Assumes nothing.
use mathlib.Core.Bool.{Bool, true, false}
use mathlib.Core.List.{List, []}
use mathlib.Core.Path.{◌≡◌, refl, sym, subst, ◌∙◌}
use Prim.Native.Nat.{ℕ, ◌+◌, ◌<◌, ◌≤◌}
use native.Mathlib.Omega.{arith}
use lib.ListN.{length, get_or, take, drop}
use lib.Seq.{length-take-le, get_or-take}
use Rattle.std.proofs.Common.{Result, Ok, Err}
use Rattle.sheet_lines.proofs.Answers.{no_item}
use Rattle.sheet_lines.proofs.CountLaws.{count_read}
use Rattle.sheet_lines.proofs.CountingLaws.{counting_read}
use Rattle.sheet_lines.proofs.EveryLaws.{no_test}
use Rattle.sheet_lines.proofs.LineLaws.{line_read, line_found}
use Rattle.sheet_lines.proofs.SectionReads.{section_judged, section_size, section_failed}
use Rattle.sheet_lines.specs.Bytes.{bytes}
use Rattle.sheet_lines.specs.Count.{count_of}
use Rattle.sheet_lines.specs.Counting.{GivesCount}
use Rattle.sheet_lines.specs.IsLine.{IsLine}
use Rattle.sheet_lines.specs.Section.{section}
use Rattle.sheet_lines.specs.declared.Fault.{Fault}
use Rattle.sheet_lines.specs.declared.Fault.TheVariants.{Sheet}
use Rattle.sheet_names.specs.IsName.{IsNameLine, SameLine, AllNames}
use Rattle.sheet_names.specs.Name.{same_text}
use Rattle.sheet_names.specs.Names.{name_of, names_of}
use Rattle.sheet_names.proofs.NameJudged.{NameRead, name_item, name_fault}
use Rattle.sheet_names.proofs.NameSteps.{name_whole}
use Rattle.sheet_names.proofs.NameWords.{name_line_told, name_line_found}
use Rattle.sheet_names.proofs.SameWords.{same_told, same_found, new_told, new_found}

-- there are 1 to 512 names
pub names_count : (sheet : List ℕ) (at line t next : ℕ) → (names_of sheet at line).count ≡ Ok (t, next)
    → (1 ≤ t) × (t ≤ 512)
unfolding names_of
names_count sheet at line t next e =
    let read = counting_read _ _ t next e in
    let count = count_read (bytes "names ") 1 512 sheet at line t read.0 read.1 in
    (count.enough, count.small)

-- so it is at most 512, where the section's reader answers with it
pub names_few : (sheet : List ℕ) (at line : ℕ) {t next : ℕ} {answer : Result (ℕ × ℕ) Fault} {entry exit : List ℕ}
    → GivesCount (names_of sheet at line) answer entry exit → answer ≡ Ok (t, next) → t ≤ 512
names_few sheet at line {t} {next} gives e = (names_count sheet at line t next (sym gives.said ∙ e)).1

module _ (sheet : List ℕ) (n at line : ℕ) where
  -- the places of the names of a section of n names
  places : List ℕ
  places = (section (name_of sheet) n at line []).items

  read_at : (i : ℕ) → i < length places → NameRead sheet (take i places) (get_or places i 0) (get_or places i 0)
  unfolding places
  read_at i h =
      let judged = section_judged (name_of sheet) n at line line [] 0 (omega arith) i (omega arith) h in
      let read = name_item sheet _ judged.place (line + i) (get_or places i 0) judged.next judged.fair in
      subst (λ p. NameRead sheet (take i places) p (get_or places i 0)) (sym read.same) read

  -- the names of a section, up to the first fault, are names, and no two of them are the same
  pub names_all : AllNames sheet (section (name_of sheet) n at line []).items
  unfolding places
  names_all =
      record {
        named = λ i h.
            let read = read_at i h in
            (read.end, name_line_told sheet _ _ (line_read sheet _ _ read.ends) read.name);
        different = λ i j low high end last one two same.
            let read = read_at j high in
            let size = length-take-le j places (omega arith) in
            let told = new_told sheet (take j places) _ read.new i (omega arith) in
            let here = get_or-take j places i 0 low in
            no_test (sym (rw here at told) ∙ same_found sheet _ end _ last one two same);
      }

-- the section of the names, read: t names, all well formed and all different
pub names_read : (sheet : List ℕ) (at line t next : ℕ) → (names_of sheet at line).count ≡ Ok (t, next)
    → (length (names_of sheet at line).items ≡ t) × AllNames sheet (names_of sheet at line).items
unfolding names_of
names_read sheet at line t next e =
    let count = count_of (bytes "names ") 1 512 sheet at line in
    let read = counting_read (λ n i. section (name_of sheet) n i (line + 1) []) count t next e in
    let size = section_size (name_of sheet) t read.0 (line + 1) next [] read.2 in (
      rw read.3 (omega (arith, size)),
      rw read.3 (names_all sheet t read.0 (line + 1)),
    )

-- The first line that is no name, or is an earlier one: it follows the names that are read, the fault is SHEET on its
-- number, and it is no name that is different from all of them.
pub record FirstWrong (sheet names : List ℕ) (n line : ℕ) (f : Fault) : Type 0 where
  pub few : length names < n
  pub carried : f ≡ Sheet (line + length names)
  pub place : ℕ
  pub wrong : (end : ℕ) → IsNameLine sheet place end
      → ((i last : ℕ) → i < length names → IsLine sheet (get_or names i 0) last
      → SameLine sheet (get_or names i 0) last place end → ⊥)
      → ⊥

-- the names, refused: the first line at fault is no name, or is an earlier one
pub names_refused : (sheet : List ℕ) (n at line : ℕ) (f : Fault) → (section (name_of sheet) n at line []).part ≡ Err f
    → FirstWrong sheet (section (name_of sheet) n at line []).items n line f
names_refused sheet n at line f e =
    let failed = section_failed (name_of sheet) n at line line [] f (omega arith) e in
    let few = failed.few in
    record {
      few = omega arith;
      carried = name_fault sheet _ failed.place (line + length names) f failed.unfair;
      place = failed.place;
      wrong = λ end name different.
          let ends = line_found sheet failed.place end name.line in
          let name_line = name_line_found sheet failed.place end name in
          let is_new = new_found sheet names failed.place (λ k h. old failed.place end name different k h) in
          no_item refl
          (sym (name_whole sheet names failed.place (line + length names) end ends name_line is_new ∙ failed.unfair));
    }
  where
    names : List ℕ
    names = (section (name_of sheet) n at line []).items

    old : (place end : ℕ) → IsNameLine sheet place end
        → ((i last : ℕ) → i < length names → IsLine sheet (get_or names i 0) last
        → SameLine sheet (get_or names i 0) last place end → ⊥)
        → (k : ℕ) → k < length names → same_text (drop (get_or names k 0) sheet) (drop place sheet) ≡ false
    old place end name different k h = by_test (same_text (drop (get_or names k 0) sheet) (drop place sheet)) refl
      where
        by_test : (b : Bool) → same_text (drop (get_or names k 0) sheet) (drop place sheet) ≡ b → b ≡ false
        by_test false t = refl
        by_test true t =
            let earlier = (names_all sheet n at line).named k h in
            absurd
            (different k earlier.0 h earlier.1.line
            (same_told sheet _ earlier.0 place end earlier.1.line name.line t))
