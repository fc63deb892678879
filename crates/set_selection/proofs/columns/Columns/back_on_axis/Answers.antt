-- `back_on_axis` meets its contract.
use Rattle.std.proofs.Common.{ℕ, Bool, ◌≡◌, ◌<◌, ◌&&◌, ◌||◌, not, eqb, List, length, get_or, refl, sym, ap, ◌∙◌, arith}
use Rattle.xpath.specs.Axis.{on_axis}
use Rattle.set_selection.specs.Sets.{Image, marked}
use Rattle.set_selection.specs.Walks.{is_under, is_over, is_below, is_above, is_after, is_before, is_later, is_earlier}
use Rattle.set_selection.proofs.Images.{image_cong, image_then, image_kept, image_self, image_or, ok_to}
use Rattle.set_selection.proofs.Relations.{back_self, back_parent, back_ancestor, back_ancestor_or_self}
use Rattle.set_selection.proofs.Relations.{back_descendant_or_self, back_attribute, back_child, back_descendant}
use Rattle.set_selection.proofs.Relations.{back_following, back_preceding, back_following_sibling}
use Rattle.set_selection.proofs.Relations.{back_preceding_sibling}
use Rattle.set_selection.proofs.columns.Columns.back_on_axis.Goals as goal

pub returns-in-Itself : goal.returns-in-Itself
returns-in-Itself c = rw c.in-Itself.is
    (ok_to _ c.from_slice.ensures.items (λ v u. (image_cong (image_self u)
    (λ x y h k. back_self _ _ _ _ c.args.self.now.sound x y))))

pub returns-in-Parent : goal.returns-in-Parent
returns-in-Parent c = rw c.in-Parent.is (ok_to _ c.under.ensures
    (λ v u. (image_cong u (λ x y h k. back_parent _ _ _ _ c.args.self.now.sound x y))))

pub returns-in-Ancestor : goal.returns-in-Ancestor
returns-in-Ancestor c = rw c.in-Ancestor.is (ok_to _ c.below.ensures
    (λ v u. (image_cong u (λ x y h k. back_ancestor _ _ _ _ c.args.self.now.sound x y (omega (arith, c.requires, h))
    (omega (arith, c.requires, k))))))

pub returns-in_ok-out-in-AncestorOrSelf : goal.returns-in_ok-out-in-AncestorOrSelf
returns-in_ok-out-in-AncestorOrSelf c = rw c.in-AncestorOrSelf.is
    (image_cong (image_or c.in_ok-out-in-AncestorOrSelf.ensures
    (image_self {m = c.args.marks.now} {out = c.args.marks.now} refl) c.united.ensures)
    (λ x y h k. back_ancestor_or_self _ _ _ _ c.args.self.now.sound x y (omega (arith, c.requires, h))
    (omega (arith, c.requires, k))))

pub returns-in_ok-out-in-DescendantOrSelf : goal.returns-in_ok-out-in-DescendantOrSelf
returns-in_ok-out-in-DescendantOrSelf c =
    let u = rw c.deref.ensures.value at c.in_ok-out-in-DescendantOrSelf.ensures in
    rw c.in-DescendantOrSelf.is
    (image_cong (image_or (image_kept (λ y. not (eqb (get_or c.args.self.now.kinds.now y 0) 5))
    c.in_ok-others-in-DescendantOrSelf.ensures u) (image_self {m = c.args.marks.now} {out = c.args.marks.now}
    refl) c.united-in-DescendantOrSelf.ensures) (λ x y h k. back_descendant_or_self _ _ _ _ c.args.self.now.sound
    x y (omega (arith, c.requires, h)) (omega (arith, c.requires, k))))

pub returns-in_ok-all-in-Attribute : goal.returns-in_ok-all-in-Attribute
returns-in_ok-all-in-Attribute c =
    let p = rw c.in_ok-all-in-Attribute.ensures.items at c.attributes-kept.ensures in
    let w = rw c.deref-in-Attribute.ensures.value at c.over.ensures in
    rw c.in-Attribute.is (ok_to _ w (λ v u. (image_cong (image_kept
    (λ y. eqb (get_or c.args.self.now.kinds.now y 0) 5) p u)
    (λ x y h k. back_attribute _ _ _ _ c.args.self.now.sound x y))))

pub returns-in_ok-others-in-Child : goal.returns-in_ok-others-in-Child
returns-in_ok-others-in-Child c =
    let w = rw c.deref-in-Child.ensures.value at c.over-in-Child.ensures in
    rw c.in-Child.is (ok_to _ w (λ v u.
    (image_cong (image_kept (λ y. not (eqb (get_or c.args.self.now.kinds.now y 0) 5)) c.in_ok-others-in-Child.ensures
    u) (λ x y h k. back_child _ _ _ _ c.args.self.now.sound x y))))

pub returns-in_ok-others-in-Descendant : goal.returns-in_ok-others-in-Descendant
returns-in_ok-others-in-Descendant c =
    let w = rw c.deref-in-Descendant.ensures.value at c.above-in-Descendant.ensures in
    rw c.in-Descendant.is (ok_to _ w (λ v u.
    (image_cong (image_kept (λ y. not (eqb (get_or c.args.self.now.kinds.now y 0) 5))
    c.in_ok-others-in-Descendant.ensures u) (λ x y h k. back_descendant _ _ _ _ c.args.self.now.sound x y
    (omega (arith, c.requires, h)) (omega (arith, c.requires, k))))))

pub returns-in_ok-others-in-Following : goal.returns-in_ok-others-in-Following
returns-in_ok-others-in-Following c =
    let w = rw c.deref-in-Following.ensures.value at c.before-in-Following.ensures in
    rw c.in-Following.is (ok_to _ w (λ v u.
    (image_cong (image_kept (λ y. not (eqb (get_or c.args.self.now.kinds.now y 0) 5))
    c.in_ok-others-in-Following.ensures u) (λ x y h k. back_following _ _ _ _ c.args.self.now.sound x y
    (omega (arith, c.requires, h)) (omega (arith, c.requires, k))))))

pub returns-in_ok-others-in-Preceding : goal.returns-in_ok-others-in-Preceding
returns-in_ok-others-in-Preceding c =
    let w = rw c.deref-in-Preceding.ensures.value at c.after.ensures in
    rw c.in-Preceding.is (ok_to _ w (λ v u.
    (image_cong (image_kept (λ y. not (eqb (get_or c.args.self.now.kinds.now y 0) 5))
    c.in_ok-others-in-Preceding.ensures u) (λ x y h k. back_preceding _ _ _ _ c.args.self.now.sound x y
    (omega (arith, c.requires, h)) (omega (arith, c.requires, k))))))

pub returns-in-FollowingSibling : goal.returns-in-FollowingSibling
returns-in-FollowingSibling c = rw c.in-FollowingSibling.is
    (ok_to _ c.on_axis.ensures (λ v u. (image_cong u (λ x y h k. back_following_sibling _ _ _ _ c.args.self.now.sound
    x y))))

pub returns-in-PrecedingSibling : goal.returns-in-PrecedingSibling
returns-in-PrecedingSibling c = rw c.in-PrecedingSibling.is
    (ok_to _ c.on_axis-in-PrecedingSibling.ensures (λ v u. (image_cong u
    (λ x y h k. back_preceding_sibling _ _ _ _ c.args.self.now.sound x y))))
