-- What a section says of its items and of its fault: each item was judged by the items before it, on its own line; a
-- section that is read has an item for each line; and a section that is refused has the items before the line at fault.
-- Assumes nothing.
use mathlib.Core.List.{List, [], ◌∷◌, ◌++◌, append_assoc, append-nil}
use mathlib.Core.Path.{◌≡◌, refl, sym, subst, ◌∙◌}
use Prim.Native.Nat.{ℕ, zero, suc, ◌+◌, ◌<◌, ◌≤◌}
use native.Mathlib.Omega.{arith}
use lib.ListN.{length, get_or, take, length-append}
use lib.Seq.{take-append_seam, get_or-append_seam}
use Rattle.std.proofs.Common.{Ok, Err}
use Rattle.sheet_lines.specs.Section.{Item, item, fault, follow, section}
use Rattle.sheet_lines.specs.declared.Fault.{Fault}
use Rattle.parsimony.proofs.Order.{by_eq}

-- item i of a section whose first line has the number first: it was judged by the items before it, at some place of
-- line first + i
pub record ItemJudged {A : Type 0} (judge : List A → ℕ → ℕ → Item A) (first : ℕ) (items : List A) (i : ℕ) (d : A)
    : Type 0 where
  pub place : ℕ
  pub next : ℕ
  pub fair : judge (take i items) place (first + i) ≡ item (get_or items i d) next

-- the line at fault, which follows the items
pub record Failed {A : Type 0} (judge : List A → ℕ → ℕ → Item A) (first t : ℕ) (items : List A) (f : Fault)
    : Type 0 where
  pub few : length items < t
  pub place : ℕ
  pub unfair : judge items place (first + length items) ≡ fault f

longer : {A : Type 0} (before : List A) (a : A) → length (before ++ a ∷ []) ≡ length before + 1
longer before a = length-append before (a ∷ [])

module _ {A : Type 0} (judge : List A → ℕ → ℕ → Item A) where
  -- the items go on from those before
  pub section_prefix : (n at line : ℕ) (before : List A)
      → (more : List A) × ((section judge n at line before).items ≡ before ++ more)
  unfolding section follow
  section_prefix zero at line before = ([], sym (append-nil before))
  section_prefix (suc n) at line before =
      by_item (judge before at line) (λ a next. section_prefix n next (line + 1) (before ++ a ∷ []))
    where
      by_item : (x : Item A)
          → ((a : A) (next : ℕ)
          → (more : List A) × ((section judge n next (line + 1) (before ++ a ∷ [])).items ≡ (before ++ a ∷ []) ++ more))
          → (more : List A)
          × ((follow x before (λ items next. section judge n next (line + 1) items)).items ≡ before ++ more)
      by_item (item a next) rest =
          let r = rest a next in
          (a ∷ r.0, r.1 ∙ append_assoc before (a ∷ []) r.0)
      by_item (fault f) rest = ([], sym (append-nil before))

  here : (first line : ℕ) (before more items : List A) (d a : A) (at next : ℕ) → line ≡ first + length before
      → items ≡ (before ++ a ∷ []) ++ more → judge before at line ≡ item a next
      → ItemJudged judge first items (length before) d
  here first line before more items d a at next number same judged =
      let whole : items ≡ before ++ a ∷ more = same ∙ append_assoc before (a ∷ []) more in
      record {
        place = at;
        next = next;
        fair = rw (whole, take-append_seam before (a ∷ more), get_or-append_seam before a more d, ← number) judged;
      }

  -- each item was judged by those before it
  pub section_judged : (n at line first : ℕ) (before : List A) (d : A) → line ≡ first + length before
      → (i : ℕ) → length before ≤ i → i < length (section judge n at line before).items
      → ItemJudged judge first (section judge n at line before).items i d
  unfolding section follow
  section_judged zero at line first before d number i low high = absurd (omega arith)
  section_judged (suc n) at line first before d number i low high =
      by_item (judge before at line) refl
      (λ a next. section_judged n next (line + 1) first (before ++ a ∷ []) d (omega (arith, longer before a)) i) high
    where
      by_item : (x : Item A) → judge before at line ≡ x
          → ((a : A) (next : ℕ) → length (before ++ a ∷ []) ≤ i
          → i < length (section judge n next (line + 1) (before ++ a ∷ [])).items
          → ItemJudged judge first (section judge n next (line + 1) (before ++ a ∷ [])).items i d)
          → i < length (follow x before (λ items next. section judge n next (line + 1) items)).items
          → ItemJudged judge first (follow x before (λ items next. section judge n next (line + 1) items)).items i d
      by_item (item a next) e rest h =
          by_eq (length before) i
          (λ same.
          let p = section_prefix n next (line + 1) (before ++ a ∷ []) in
          subst (λ k. ItemJudged judge first (section judge n next (line + 1) (before ++ a ∷ [])).items k d) same
          (here first line before p.0 _ d a at next number p.1 e))
          (λ other. rest a next (omega (arith, longer before a)) h)
      by_item (fault f) e rest h = absurd (omega arith)

  -- a section that is read has an item for each line
  pub section_size : (n at line next : ℕ) (before : List A) → (section judge n at line before).part ≡ Ok next
      → length (section judge n at line before).items ≡ length before + n
  unfolding section follow
  section_size zero at line next before e = omega arith
  section_size (suc n) at line next before e =
      by_item (judge before at line) (λ a i. section_size n i (line + 1) next (before ++ a ∷ [])) e
    where
      by_item : (x : Item A)
          → ((a : A) (i : ℕ) → (section judge n i (line + 1) (before ++ a ∷ [])).part ≡ Ok next
          → length (section judge n i (line + 1) (before ++ a ∷ [])).items ≡ length (before ++ a ∷ []) + n)
          → (follow x before (λ items i. section judge n i (line + 1) items)).part ≡ Ok next
          → length (follow x before (λ items i. section judge n i (line + 1) items)).items ≡ length before + suc n
      by_item (item a i) rest h = let r = rest a i h in omega (arith, longer before a)
      by_item (fault f) rest h = let z : ◌≡◌ {A = ℕ} 0 1 = cc in absurd (omega arith)

  -- a section that is refused has the items before the line at fault
  pub section_failed : (n at line first : ℕ) (before : List A) (f : Fault) → line ≡ first + length before
      → (section judge n at line before).part ≡ Err f
      → Failed judge first (length before + n) (section judge n at line before).items f
  unfolding section follow
  section_failed zero at line first before f number e = let z : ◌≡◌ {A = ℕ} 0 1 = cc in absurd (omega arith)
  section_failed (suc n) at line first before f number e =
      by_item (judge before at line) refl
      (λ a i. section_failed n i (line + 1) first (before ++ a ∷ []) f (omega (arith, longer before a))) e
    where
      by_item : (x : Item A) → judge before at line ≡ x
          → ((a : A) (i : ℕ) → (section judge n i (line + 1) (before ++ a ∷ [])).part ≡ Err f
          → Failed judge first (length (before ++ a ∷ []) + n)
          (section judge n i (line + 1) (before ++ a ∷ [])).items f)
          → (follow x before (λ items i. section judge n i (line + 1) items)).part ≡ Err f
          → Failed judge first (length before + suc n)
          (follow x before (λ items i. section judge n i (line + 1) items)).items f
      by_item (item a i) j rest h =
          let r = rest a i h in
          let few = r.few in
          record { few = omega (arith, longer before a); place = r.place; unfair = r.unfair }
      by_item (fault g) j rest h =
          let same : g ≡ f = cc in
          record { few = omega arith; place = at; unfair = rw (← number, j, same) }
