-- What counting by sets answers is the column's score.
-- Assumes nothing.
use mathlib.Core.List.{List, []}
use mathlib.Core.Path.{◌∙◌}
use Prim.Native.Nat.{ℕ}
use Rattle.parsimony.proofs.Demand2.{column_count}
use Rattle.promises.specs.CallRules.{count_rules}
use Rattle.promises.specs.CallWrites.{CountWritten}
use Rattle.promises.specs.Input.{Input, input}
use Rattle.promises.specs.Rules.{All}
use Rattle.promises.proofs.Meaning.{score_right}
use Rattle.promises.proofs.RuleLaws.{count_parts}
use Rattle.counts_up.specs.Prelims.{Prelims}

module _ (left right : List ℕ) (s : ℕ) (costs : List ℕ) (c : ℕ) (cells : List ℕ) (j room : ℕ)
    (rules : All (count_rules (input left right s costs c cells []) j room)) where
  abbrev table : Input
  table = input left right s costs c cells []

  -- the sets written and the changes counted are what the call promises
  pub count_right : {before after : List ℕ} {changes : ℕ} → Prelims left right c cells j before after changes
      → CountWritten table j before changes after
  count_right {changes = changes} p =
      let parts = count_parts left right s costs c cells j room rules in
      let allowed = parts.table in
      let counted =
      column_count left right s costs c cells [] j allowed.legal allowed.costs allowed.cells allowed.handed
      parts.inside parts.unit.none parts.unit.unit in
      record {
        each = p.sets;
        count = p.count;
        score = score_right table allowed j parts.inside changes (p.count ∙ counted.0);
      }
