-- `tree::build_block` and `tree::build_sons` meet their contracts.
use mathlib.Core.Path.{◌≡◌, refl, sym, ap, ◌∙◌, subst}
use mathlib.Core.List.{List, map}
use Prim.Native.Nat.{ℕ, ◌-◌}
use native.Mathlib.Numerals.{add-one}
use native.Mathlib.Omega.{arith}
use lib.ListN.{take, drop, length-set}
use lib.Seq.{slice}
use Rattle.algebra.specs.Lists.{part_is}
use Rattle.definitions.specs.Shape.{Block}
use Rattle.definitions.specs.Tables.{line_at}
use Rattle.definitions.specs.Tree.{simple as simpleOf}
use Rattle.geometry.specs.Means.{block_of}
use Rattle.rule.specs.Rule.{Candidates, left_whole}
use Rattle.tree.proofs.Sequence.{grown_divided}
use Rattle.tree.proofs.Sons.{left_whole_lem, is_divided, grown_leaf, grown_none, ready_down, no_son, son_at, son_ready, son_then, sons_grown, no_more}
use Rattle.tree.proofs.+build_block_build_sons.Goals as goal

-- the part of the slots that is tested is the block's candidates
whole_is : (slots lines : List ℕ) (from to level : ℕ) (k : Block) {b : _} → take (to - from) (drop from slots) ≡ slice from to slots →
    b ≡ left_whole level (simpleOf (map (line_at lines) (take (to - from) (drop from slots))) k) → b ≡ left_whole level (simpleOf (map (line_at lines) (slice from to slots)) k)
whole_is slots lines from to level k p e = e ∙ ap (λ (z : List ℕ). left_whole level (simpleOf (map (line_at lines) z) k)) p

pub build_block-returns-then-nodes-node : goal.build_block-returns-then-nodes-node
build_block-returns-then-nodes-node t c =
    let a = c.args in
    grown_none a.lines.now _ (block_of a.k) a.level a.at a.nodes.now a.listings.now a.c.free a.slots.now (omega (arith, c.if-nodes-node.true))

pub build_block-left_whole-requires : goal.build_block-left_whole-requires
build_block-left_whole-requires t c =
    subst (λ (z : List ℕ). Candidates c.args.lines.now (block_of c.args.k) z) (sym (part_is c.args.c.from c.args.c.to c.args.slots.now c.requires.span)) c.requires.candidates

pub build_block-returns-then-left_whole : goal.build_block-returns-then-left_whole
build_block-returns-then-left_whole t c =
    let p = part_is c.args.c.from c.args.c.to c.args.slots.now c.requires.span in
    let w = whole_is c.args.slots.now c.args.lines.now c.args.c.from c.args.c.to c.args.level (block_of c.args.k) p c.left_whole.ensures in
    let leaf = left_whole_lem c.args.lines.now _ _ c.args.level (sym c.if-left_whole.true ∙ w) c.requires.of_tree c.requires.candidates in
    grown_leaf _ _ _ c.args.level leaf _ p c.put_leaf.ensures refl

pub build_block-build_sons-requires : goal.build_block-build_sons-requires
build_block-build_sons-requires t c =
    let p = part_is c.args.c.from c.args.c.to c.args.slots.now c.requires.span in
    let w = whole_is c.args.slots.now c.args.lines.now c.args.c.from c.args.c.to c.args.level (block_of c.args.k) p c.left_whole.ensures in
    let d = is_divided _ _ _ _ (sym c.if-left_whole.false ∙ w) c.requires.of_tree in
    (omega (arith, c.decreases, d.some), ready_down c.requires d.some _ _ (simp length-set (omega (arith, c.if-nodes-node.false))) c.requires.listing)

pub build_block-returns : goal.build_block-returns
build_block-returns t c =
    let p = part_is c.args.c.from c.args.c.to c.args.slots.now c.requires.span in
    let w = whole_is c.args.slots.now c.args.lines.now c.args.c.from c.args.c.to c.args.level (block_of c.args.k) p c.left_whole.ensures in
    let d = is_divided _ _ _ _ (sym c.if-left_whole.false ∙ w) c.requires.of_tree in
    rw (d.nodes_are, d.listings_are) (grown_divided _ _ c.args.at _ c.args.nodes.now c.args.listings.now _ _ refl refl c.build_sons.ensures)

pub build_sons-loop-son-init : goal.build_sons-loop-son-init
build_sons-loop-son-init t c = no_son c.requires c.spread-s.auto.slots c.requires.node c.requires.listing

pub build_sons-build_block-requires : goal.build_sons-build_block-requires
build_sons-build_block-requires t c =
    let son = son_at c.requires c.spread-s.ensures _ _ _ _ c.north_west.ensures c.north_east.ensures c.south_west.ensures c.south_east.ensures c.loop-son.son-index c.loop-son-test.true _ in
    (omega (arith, c.decreases), son_ready c.requires c.loop-son.invariant refl son)

pub build_sons-returns-in_err-next : goal.build_sons-returns-in_err-next
build_sons-returns-in_err-next t c =
    let son = son_at c.requires c.spread-s.ensures _ _ _ _ c.north_west.ensures c.north_east.ensures c.south_west.ensures c.south_east.ensures c.loop-son.son-index c.loop-son-test.true _ in
    let so = son_then c.requires c.loop-son.invariant refl son c.build_block.ensures c.build_block.auto.slots c.build_block.auto.nodes c.build_block.auto.listings in
    rw c.from_residual.ensures (sons_grown c.requires c.spread-s.ensures refl (no_more c.requires (3 - c.loop-son.son-index) (omega (arith, c.loop-son-test.true)) (rw c.in_err-next.was at so)))

pub build_sons-loop-son-preserved : goal.build_sons-loop-son-preserved
build_sons-loop-son-preserved t c =
    let son = son_at c.requires c.spread-s.ensures _ _ _ _ c.north_west.ensures c.north_east.ensures c.south_west.ensures c.south_east.ensures c.loop-son.son-index c.loop-son-test.true _ in
    let so = son_then c.requires c.loop-son.invariant refl son c.build_block.ensures c.build_block.auto.slots c.build_block.auto.nodes c.build_block.auto.listings in
    rw add-one (rw c.in_ok-next.was at so)

pub build_sons-returns : goal.build_sons-returns
build_sons-returns t c = sons_grown c.requires c.spread-s.ensures (omega arith) c.loop-son.invariant
