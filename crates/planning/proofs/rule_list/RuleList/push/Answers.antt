use Rattle.std.proofs.Common.{◌≡◌, ℕ, ◌+◌, ◌-◌, length, length-set, sym, ap, ◌∙◌, arith}
use Rattle.std.proofs.lemmas.List.{drop-set-lt, drop-drop, drop-replicate}
use Rattle.planning.specs.RuleLists.{length-padded}
use Rattle.planning.proofs.rule_list.RuleList.push.Goals as goal

-- One number more counts, and behind it the zeros go on.
pub invariant_of-self : goal.invariant_of-self
invariant_of-self c =
    let numbers = c.self.inside.numbers in
    let n = c.self.inside.count in
    let counted : n ≡ length c.args.self.now = sym (length-padded numbers n c.self.invariant) ∙ ap length c.self.view_is in
    record {
      within = omega (arith, counted, c.requires);
      sized = length-set numbers n c.args.x ∙ c.self.invariant.sized;
      zeros = grind (arith, drop-set-lt (n + 1) numbers n c.args.x, drop-drop 1 n numbers, drop-replicate {X = ℕ} 1 (64 - n) 0, c.self.invariant.zeros);
    }
