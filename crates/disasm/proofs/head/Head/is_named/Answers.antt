use Rattle.std.proofs.Common.{◌≡◌, ◌++◌, ◌-◌, ℕ, List, length, take, drop, bytes_eq, true, false, Bool, eqb, sym, ap, ◌∙◌, arith, length-drop}
use Rattle.std.specs.List.{starts_with}
use Rattle.std.proofs.Math.Seq.{drop-append_seam}
use Rattle.std.proofs.lemmas.Slice.Eq.{bytes_eq-Decides, starts_is}
use Rattle.std.proofs.lemmas.Bool.Decides.{same_from_decides, Decides-eqb}
use Rattle.std.proofs.lemmas.List.{take_all}
use Rattle.disasm.specs.Names.{head_name, head_stem, head_suffix}
use Rattle.disasm.proofs.head.Head.is_named.Goals as goal

lacks_front : (p q s : List ℕ) (r : Bool) → r ≡ starts_with eqb s p → r ≡ false → r ≡ bytes_eq (p ++ q) s
lacks_front p q s r h f =
    let front = starts_is Decides-eqb s p r h in
    same_from_decides {P = p ++ q ≡ s} r (bytes_eq (p ++ q) s) ((λ y. absurd cc), (λ e. front.1 q (sym e))) (bytes_eq-Decides (p ++ q) s)

has_front : (p q s : List ℕ) (r t : Bool) → r ≡ starts_with eqb s p → r ≡ true → t ≡ bytes_eq (take (length s - length p) (drop (length p) s)) q → t ≡ bytes_eq (p ++ q) s
has_front p q s r t h y e =
    let front = starts_is Decides-eqb s p r h in
    let whole : take (length s - length p) (drop (length p) s) ≡ drop (length p) s = take_all _ _ (omega (arith, length-drop (length p) s)) in
    let test : t ≡ bytes_eq (drop (length p) s) q = e ∙ ap (λ (xs : List ℕ). bytes_eq xs q) whole in
    let same = bytes_eq-Decides (drop (length p) s) q in
    same_from_decides {P = p ++ q ≡ s} t (bytes_eq (p ++ q) s) (
      (λ is. ap (λ (xs : List ℕ). p ++ xs) (sym (same.0 (sym test ∙ is))) ∙ sym (front.0 y)),
      (λ is. test ∙ same.1 (ap (drop (length p)) (sym is) ∙ drop-append_seam p q)),
    )
    (bytes_eq-Decides (p ++ q) s)

pub returns-then-starts_with : goal.returns-then-starts_with
unfolding head_name
returns-then-starts_with c =
    let starts = rw (c.as_bytes-name.ensures.value, c.as_bytes-stem.ensures.value, c.stem.ensures) at c.starts_with.ensures.value in
    let same = rw (c.as_bytes-name.ensures.value, c.as_bytes-stem.ensures.value, c.stem.ensures, c.as_bytes.ensures.value, c.suffix.ensures) at c.eq.ensures in
    has_front (head_stem c.args.self) (head_suffix c.args.self) c.args.name.now c.starts_with.result c.eq.result starts c.if-starts_with.true same

pub returns-else-starts_with : goal.returns-else-starts_with
unfolding head_name
returns-else-starts_with c =
    let starts = rw (c.as_bytes-name.ensures.value, c.as_bytes-stem.ensures.value, c.stem.ensures) at c.starts_with.ensures.value in
    lacks_front (head_stem c.args.self) (head_suffix c.args.self) c.args.name.now c.starts_with.result starts c.if-starts_with.false
