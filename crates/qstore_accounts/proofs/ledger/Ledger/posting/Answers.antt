use Rattle.std.proofs.Common.{◌≡◌, ◌+◌, ◌-◌, ◌≤◌, sym, ap, ◌∙◌, option_map, arith}
use Rattle.std.proofs.lemmas.Option.{same_Some}
use Rattle.qrules.specs.declared.record.TheConstants.{MAX_USE}
use Rattle.qrules.specs.Sort.{Inodes, Blocks}
use Rattle.qplain.specs.Use.{use_of}
use Rattle.qstore_accounts.specs.declared.record_change.RecordChange.TheVariants.{Uses}
use Rattle.qstore_accounts.specs.Claims.{weight_at}
use Rattle.qstore_accounts.specs.Ledgers.{uses_after}
use Rattle.qstore_accounts.proofs.Shares.{gained-le, lost-le, use-then}
use Rattle.qstore_accounts.proofs.ledger.Ledger.posting.Goals as goal

pub overflow_add-blocks : goal.overflow_add-blocks
overflow_add-blocks c =
    let x = c.args in
    let r = c.requires.replacement in
    let le = gained-le x.self.now r.0 x.from x.to r.1 r.2 r.3 r.4 c.at-holder.ensures.by_id r.5
    x.slot c.at-holder.result.now c.at-holder.ensures.holder Blocks in
    let gained : c.weight_at-gained.result.blocks ≡ (weight_at x.to x.slot).blocks = ap (λ w. w.blocks) c.weight_at-gained.ensures in
    omega (arith, le, c.blocks-2.ensures.blocks, gained)

pub overflow_sub-blocks : goal.overflow_sub-blocks
overflow_sub-blocks c =
    let x = c.args in
    let r = c.requires.replacement in
    let le = lost-le x.self.now r.0 x.from x.to r.1 r.2 r.3 r.4 c.at-holder.ensures.by_id r.5
    x.slot c.at-holder.result.now c.at-holder.ensures.holder Blocks in
    let gained : c.weight_at-gained.result.blocks ≡ (weight_at x.to x.slot).blocks = ap (λ w. w.blocks) c.weight_at-gained.ensures in
    let lost : c.weight_at-lost.result.blocks ≡ (weight_at x.from x.slot).blocks = ap (λ w. w.blocks) c.weight_at-lost.ensures in
    omega (arith, le, c.blocks-2.ensures.blocks, gained, lost)

pub overflow_sub-inodes : goal.overflow_sub-inodes
overflow_sub-inodes c =
    let x = c.args in
    let r = c.requires.replacement in
    let le = lost-le x.self.now r.0 x.from x.to r.1 r.2 r.3 r.4 c.at-holder.ensures.by_id r.5
    x.slot c.at-holder.result.now c.at-holder.ensures.holder Inodes in
    let gained : c.weight_at-gained.result.inodes ≡ (weight_at x.to x.slot).inodes = ap (λ w. w.inodes) c.weight_at-gained.ensures in
    let lost : c.weight_at-lost.result.inodes ≡ (weight_at x.from x.slot).inodes = ap (λ w. w.inodes) c.weight_at-lost.ensures in
    omega (arith, le, c.inodes.ensures.inodes, gained, lost)

-- the posting sets what the principal of its record uses then
pub returns-clause-posting : goal.returns-clause-posting
returns-clause-posting c kind S S1 f t r =
    let x = c.args in
    let o = c.at-holder.result.now in
    let there = c.at-holder.ensures.holder in
    let by_id = c.at-holder.ensures.by_id in
    let gained = c.weight_at-gained.ensures in
    let lost = c.weight_at-lost.ensures in
    let blocks : c.blocks-2.result + c.weight_at-gained.result.blocks - c.weight_at-lost.result.blocks ≡ use_of S1 kind o.id Blocks =
    (λ i. c.blocks-2.ensures.blocks i + (gained i).blocks - (lost i).blocks)
    ∙ sym (use-then x.self.now kind x.from x.to S S1 f t by_id r x.slot o there Blocks) in
    let inodes : c.inodes.result + c.weight_at-gained.result.inodes - c.weight_at-lost.result.inodes ≡ use_of S1 kind o.id Inodes =
    (λ i. c.inodes.ensures.inodes i + (gained i).inodes - (lost i).inodes)
    ∙ sym (use-then x.self.now kind x.from x.to S S1 f t by_id r x.slot o there Inodes) in
    let most_blocks = gained-le x.self.now kind x.from x.to S S1 f t by_id r x.slot o there Blocks in
    let most_inodes = gained-le x.self.now kind x.from x.to S S1 f t by_id r x.slot o there Inodes in
    let gained_blocks : c.weight_at-gained.result.blocks ≡ (weight_at x.to x.slot).blocks = ap (λ w. w.blocks) gained in
    let gained_inodes : c.weight_at-gained.result.inodes ≡ (weight_at x.to x.slot).inodes = ap (λ w. w.inodes) gained in
    let few_blocks : c.blocks-2.result + c.weight_at-gained.result.blocks - c.weight_at-lost.result.blocks ≤ MAX_USE =
    omega (arith, most_blocks, c.blocks-2.ensures.blocks, gained_blocks) in
    let few_inodes : c.inodes.result + c.weight_at-gained.result.inodes - c.weight_at-lost.result.inodes ≤ MAX_USE =
    omega (arith, most_inodes, c.inodes.ensures.inodes, gained_inodes) in
    record {
      placed = record { slot = ap (option_map (λ p. p.id)) there; countable = (few_blocks, few_inodes) };
      uses = λ p p_there. (λ i. Uses (blocks i) (inodes i)) ∙ ap (uses_after S1 kind) (same_Some o p (sym there ∙ p_there));
    }
