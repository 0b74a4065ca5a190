-- The promises of packed figures, kept.
use mathlib.Core.Path.{◌≡◌, refl, sym, ap, subst, ◌∙◌}
use mathlib.Core.Logic.{◌⊎◌, inl, inr}
use mathlib.Core.Bool.{Bool, true, false, cond, ◌&&◌}
use mathlib.Core.List.{List, [], ◌∷◌, ◌++◌}
use Prim.Native.Nat.{ℕ, suc, ◌+◌, ◌-◌, ◌≤◌, ◌<◌}
use native.Mathlib.Omega.{arith}
use lib.Dec.{leb, ltb, eqb}
use lib.IntN.{pos}
use lib.ListN.{length, take, drop, replicate, length-append, length-replicate}
use lib.Seq.{take_at, drop_at}
use lib.Signed.{mag}
use borrow.Author.Tests.{le-leb, leb-true, lt-ltb, ltb-true, ne_eqb, eqb-true}
use Rattle.text.specs.Bytes.{is_one_of, all_one_of}
use Rattle.text.proofs.Cases.{by_test, both_left, both_right}
use Rattle.packed.specs.Packed.{Figure, worth_of, width_ok, all_solidi, trim, all_digits, number, figure_of as figureFrom, holds, fault, spelt, half_of, fitting, field_of, write_code, read_packed}
use Rattle.packed.specs.Words.{span, digit_bytes, index_in, Digits}
use Rattle.std.specs.Prelude.{Some, None, Result, Ok, Err, is_ok}
use Rattle.text.specs.Checks.{refuse}
use Rattle.text.specs.Codes.{number_of}
use Rattle.text.specs.declared.Code.{Code}
use Rattle.text.specs.declared.Code.TheVariants.{WrongLength, NoRoom, NotAllowed, OutOfRange, OtherSpelling, Disagree}
use Rattle.text.specs.declared.Refusal.{Refusal}
use Rattle.text.proofs.Codes.{numbered}
use Rattle.packed.proofs.Fault.{none-agrees, agreeing, agreeing-length, agreeing-take, agreeing-free, four-inside}
use Rattle.packed.proofs.RoundTrip.{field-length, solidi-all, solidi-back, read-solidi, read_back, write-back}
use Rattle.packed.proofs.Words.{worth_is, half_is, figure-read, six-read}
use Rattle.caller.specs.Figures.{host_figure, figure_of, is_figure, write_figure_code, figure_over}
use Rattle.caller.specs.declared.HostFigure.{HostFigure}
use Rattle.caller.proofs.Figures.{formed-code}
use Rattle.caller.proofs.Within.{form-is}
use Rattle.caller.proofs.Carried.{figure-back, figure-formed}
use Rattle.desk.specs.Numbers.{accepted, answer_of, packed_numbers, write_answer}
use Rattle.promises.proofs.Codes.{number_apart}
use Rattle.promises.specs.Packed.{read, write, written, figure, Width, Fits, Agree, PackedPromises}

-- ---- Reading

abbrev nothing {ℓ} : {P : Type ℓ} → ◌≡◌ {A = ℕ} 0 1 → P
nothing e = absurd (omega arith)

-- code 0 is a figure, given or missing
read_is : (f : List ℕ) → (read f).code ≡ 0 → (x : Figure) × (read_packed f ≡ Ok x)
read_is f e = go (read_packed f) refl e
  where
    go : (p : Result Figure Refusal) → read_packed f ≡ p → (packed_numbers p).code ≡ 0 → (x : Figure) × (read_packed f ≡ Ok x)
    go (Ok x) h z = (x, h)
    go (Err r) h z = let l = (numbered r.code).least in let w : number_of r.code ≡ 0 = z in absurd (omega arith)

missing-read : (w : ℕ) → Width w → read (replicate w 47) ≡ record { number = pos 0; place = 0; code = 0; given = 0 }
missing-read w k =
    let l : length (replicate {A = ℕ} w 47) ≡ w = length-replicate w 47 in
    let a = k.some in
    let b = k.few in
    ap packed_numbers (read-solidi (replicate w 47) (omega arith) (omega arith) (solidi-all w))

missing-only : (f : List ℕ) → (read f).code ≡ 0 → (read f).given ≡ 0 → f ≡ replicate (length f) 47
unfolding field_of
missing-only f e g = go (read_is f e).0 (read_is f e).1
  where
    go : (x : Figure) → read_packed f ≡ Ok x → f ≡ replicate (length f) 47
    go (Some x) h = let z : ◌≡◌ {A = ℕ} 1 0 = sym (ap (λ (p : Result Figure Refusal). (packed_numbers p).given) h) ∙ g in nothing (sym z)
    go None h = sym (write-back f None h).back

width_is : (w : ℕ) → Width w → width_ok w ≡ true
width_is w k = rw (le-leb 1 w k.some, le-leb w 5 k.few)

is-width : (w : ℕ) → width_ok w ≡ true → Width w
is-width w e = record { some = leb-true 1 w (both_left (leb 1 w) (leb w 5) e); few = leb-true w 5 (both_right (leb 1 w) (leb w 5) e) }

one-is : (f : List ℕ) → ((read f).code ≡ 1) → ¬ Width (length f)
unfolding read_packed spelt
one-is f e k =
    let w = width_is (length f) k in
    let ds = trim f in
    let x = figureFrom (number 0 ds) (length ds) in
    let d : Bool = ltb 0 (length ds) && all_digits ds in
    go (all_solidi f) d (holds (length ds - 1) x) (Some x) (sym (ap (λ (t : Bool). (packed_numbers (cond t (cond (all_solidi f) (Ok None) (cond d (cond (holds (length ds - 1) x) (refuse OtherSpelling 0) (Ok (Some x))) (refuse NotAllowed (fault f)))) (refuse WrongLength 0))).code) w) ∙ e)
  where
    go : (s d h : Bool) (y : Figure)
        → (packed_numbers (cond s (Ok None) (cond d (cond h (refuse OtherSpelling 0) (Ok y)) (refuse NotAllowed (fault f))))).code ≡ 1 → ⊥
    go true d h y z = omega arith
    go false true true y z = omega arith
    go false true false (Some x) z = omega arith
    go false true false None z = omega arith
    go false false h y z = omega arith

is_one : (f : List ℕ) → ¬ Width (length f) → (read f).code ≡ 1
unfolding read_packed
is_one f n =
    by_test (width_ok (length f)) (λ (t : width_ok (length f) ≡ true). absurd (n (is-width (length f) t)))
    (λ (t : width_ok (length f) ≡ false). rw t)

-- ---- Which fields are 4

-- a field is its leading spaces and the rest
spaces_first : (f : List ℕ) → (n : ℕ) × (f ≡ replicate n 32 ++ trim f)
unfolding trim
spaces_first [] = (0, refl)
spaces_first (b ∷ bs) =
    by_test (eqb b 32)
    (λ (t : eqb b 32 ≡ true).
    let r = spaces_first bs in
    let e = eqb-true b 32 t in
    (suc r.0, rw (t, e) (ap (λ (l : List ℕ). 32 ∷ l) r.1)))
    (λ (t : eqb b 32 ≡ false). (0, rw t))

-- a byte that is worth less than 40 is one of the digits
one_of : (xs : List ℕ) (b : ℕ) → index_in xs b < length xs → is_one_of xs b ≡ true
unfolding is_one_of index_in
one_of [] b h = absurd (omega arith)
one_of (x ∷ xs) b h =
    by_test (eqb b x) (λ (t : eqb b x ≡ true). rw t)
    (λ (t : eqb b x ≡ false). rw t (one_of xs b (let l = rw t at h in omega arith)))

digits_are : (ds : List ℕ) → all_digits ds ≡ true → all_one_of digit_bytes ds ≡ true
unfolding all_digits all_one_of
digits_are [] e = refl
digits_are (b ∷ ds) e =
    let l = ltb-true (worth_of b) 40 (both_left (ltb (worth_of b) 40) (all_digits ds) e) in
    rw (one_of digit_bytes b (rw (worth_is b) at l)) (digits_are ds (both_right (ltb (worth_of b) 40) (all_digits ds) e))

other-four : (f : List ℕ) → Width (length f) → ¬ (f ≡ replicate (length f) 47)
    → ((n : ℕ) (ds : List ℕ) → Digits n ds → f ≡ replicate n 32 ++ ds → ⊥) → (read f).code ≡ 4
unfolding read_packed
other-four f k solid spelt-so =
    by_test (all_solidi f)
    (λ (s : all_solidi f ≡ true). absurd (solid (sym (solidi-back f s))))
    (λ (s : all_solidi f ≡ false).
    by_test (ltb 0 (length (trim f)) && all_digits (trim f))
    (λ (t : (ltb 0 (length (trim f)) && all_digits (trim f)) ≡ true).
    let r = spaces_first f in
    let n = r.0 in
    let some = ltb-true 0 (length (trim f)) (both_left (ltb 0 (length (trim f))) (all_digits (trim f)) t) in
    let long : length f ≡ n + length (trim f) =
    ap length r.1 ∙ length-append (replicate n 32) (trim f) ∙ ap (λ (m : ℕ). m + length (trim f)) (length-replicate {A = ℕ} n 32) in
    let few = k.few in
    absurd
    (spelt-so n (trim f)
    (record { some = omega arith; few = omega (arith, long); digit = digits_are (trim f) (both_right (ltb 0 (length (trim f))) (all_digits (trim f)) t) })
    r.1))
    (λ (t : (ltb 0 (length (trim f)) && all_digits (trim f)) ≡ false). rw (width_is (length f) k, s, t)))

-- ---- Where code 4 points

-- code 4 is the refusal with 4
four-read : (f : List ℕ) → (read f).code ≡ 4 → read_packed f ≡ refuse NotAllowed (read f).place
four-read f e = go (read_packed f) refl e
  where
    go : (p : Result Figure Refusal) → read_packed f ≡ p → (packed_numbers p).code ≡ 4 → p ≡ refuse NotAllowed (packed_numbers p).place
    go (Ok (Some x)) h z = nothing (let y : ◌≡◌ {A = ℕ} 0 4 = z in omega arith)
    go (Ok None) h z = nothing (let y : ◌≡◌ {A = ℕ} 0 4 = z in omega arith)
    go (Err r) h z = ap (λ (c : Code). refuse c r.place) (number_apart r.code NotAllowed z)

four_is : (f : List ℕ) → (read f).code ≡ 4
    → ((read f).place < length f)
    × ((g : List ℕ) → Agree (suc (read f).place) f g → (read g).code ≡ 4)
    × ((j : ℕ) → j < (read f).place → (g : List ℕ) × Agree (suc j) f g × (¬ ((read g).code ≡ 4)))
four_is f e =
    let p = (read f).place in
    let r = four-read f e in (
      four-inside f p r,
      λ (g : List ℕ) (a : Agree (suc p) f g). ap (λ (q : Result Figure Refusal). (packed_numbers q).code) (none-agrees f g p r a.width a.bytes),
      λ (j : ℕ) (h : j < p). (
        agreeing f j,
        record { width = agreeing-length f p j r h; bytes = agreeing-take f p j r h },
        λ (z : (read (agreeing f j)).code ≡ 4). agreeing-free f p j r h _ (four-read (agreeing f j) z),
      ),
    )

-- ---- Writing

-- a figure that fits, for C
module _ (x : Figure) (w : ℕ) (out : List ℕ) (k : Width w) (fits : fitting w x ≡ true) (room : w ≤ length out) where
  code-zero : write_figure_code (host_figure x) w (length out) ≡ Ok tt
  unfolding write_code
  code-zero =
      formed-code (host_figure x) w (length out) (figure-formed x)
      ∙ rw (figure-back x, width_is w k, fits, le-leb w (length out) room)

  wrote_it : write (host_figure x) w out ≡ accepted w
  wrote_it = rw code-zero

  left_it : written (host_figure x) w out ≡ field_of w x ++ drop w out
  unfolding figure_over
  left_it = rw (code-zero, figure-back x)

  back_it : read (take w (written (host_figure x) w out)) ≡ packed_numbers (Ok x)
  back_it =
      let a = k.some in
      let b = k.few in
      rw (left_it, take_at (field_of w x) (drop w out) w (field-length w x)) (ap packed_numbers (read_back w x a b fits))

  rest_it : drop w (written (host_figure x) w out) ≡ drop w out
  rest_it = rw (left_it, drop_at (field_of w x) (drop w out) w (field-length w x))

fits_host : (w : ℕ) (x : Figure) → fitting w x ≡ true → Fits w (host_figure x)
fits_host w (Some x) e = inr (refl, rw (half_is w) at (ltb-true (mag x) (half_of w) e))
fits_host w None e = inl refl

read-write : (f out : List ℕ) → (read f).code ≡ 0 → length f ≤ length out
    → (Fits (length f) (figure (read f)))
    × (write (figure (read f)) (length f) out ≡ accepted (length f))
    × (written (figure (read f)) (length f) out ≡ f ++ drop (length f) out)
read-write f out e room =
    let x = (read_is f e).0 in
    let h = (read_is f e).1 in
    let b = write-back f x h in
    let k : Width (length f) = record { some = b.some; few = b.few } in
    let g : figure (read f) ≡ host_figure x = ap (λ (p : Result Figure Refusal). figure (packed_numbers p)) h ∙ same x in
    subst
    (λ (h : HostFigure).
    (Fits (length f) h) × (write h (length f) out ≡ accepted (length f)) × (written h (length f) out ≡ f ++ drop (length f) out)) (sym g)
    (fits_host (length f) x b.held, wrote_it x (length f) out k b.held room, left_it x (length f) out k b.held room ∙ ap (λ (l : List ℕ). l ++ drop (length f) out) b.back)
  where
    same : (x : Figure) → figure (packed_numbers (Ok x)) ≡ host_figure x
    same (Some x) = refl
    same None = refl

-- what fits is a figure for C
figure-of-fits : (w : ℕ) (f : HostFigure) → Fits w f → (x : Figure) × (f ≡ host_figure x) × (fitting w x ≡ true)
figure-of-fits w f (inl e) = (None, e, refl)
figure-of-fits w f (inr g) =
    (Some f.number, ap (λ (n : ℕ). record { number = f.number; given = n }) g.0, rw (half_is w) (lt-ltb (mag f.number) (span w) g.1))

write_read : (f : HostFigure) (w : ℕ) (out : List ℕ) → Width w → Fits w f → w ≤ length out
    → (write f w out ≡ accepted w)
    × (read (take w (written f w out)) ≡ record { number = f.number; place = 0; code = 0; given = f.given })
    × (drop w (written f w out) ≡ drop w out)
write_read f w out k fits room =
    let (x, e, h) = figure-of-fits w f fits in
    rw e (wrote_it x w out k h room, back_it x w out k h room ∙ same x, rest_it x w out k h room)
  where
    same : (x : Figure) → packed_numbers (Ok x) ≡ record { number = (host_figure x).number; place = 0; code = 0; given = (host_figure x).given }
    same (Some x) = refl
    same None = refl

-- ---- Refusals

code_is : (x : Result (Unit {0}) Code) (w : ℕ) → (write_answer x w).code ≡ 0 → x ≡ Ok tt
code_is (Ok u) w e = refl
code_is (Err code) w e = let l = (numbered code).least in let z : number_of code ≡ 0 = e in absurd (omega arith)

writes-only : (f : HostFigure) (w : ℕ) (out : List ℕ) → (write f w out).code ≡ 0 → Width w × Fits w f × (w ≤ length out)
unfolding write_figure_code
writes-only f w out e =
    let c = code_is (write_figure_code f w (length out)) w e in
    go (width_ok w) refl (fitting w (figure_of f)) refl (is_figure f) refl (leb w (length out)) refl c
  where
    go : (a : Bool) → width_ok w ≡ a → (b : Bool) → fitting w (figure_of f) ≡ b → (c : Bool) → is_figure f ≡ c → (d : Bool) → leb w (length out) ≡ d
        → ◌≡◌ {A = Result (Unit {0}) Code} (cond a (cond b (cond c (cond d (Ok tt) (Err NoRoom)) (Err Disagree)) (Err OutOfRange)) (Err WrongLength)) (Ok tt) → Width w × Fits w f × (w ≤ length out)
    go true p true q true r true s z = (is-width w p, fits (form-is f r) q, leb-true w (length out) s)
      where
        fits : (f ≡ record { number = pos 0; given = 0 }) ⊎ (f.given ≡ 1) → fitting w (figure_of f) ≡ true → Fits w f
        fits (inl n) q = inl n
        fits (inr g) q =
            let t : eqb f.given 0 ≡ false = ne_eqb f.given 0 (λ (y : f.given ≡ 0). omega arith) in
            inr (g, rw (half_is w) at (ltb-true (mag f.number) (half_of w) (rw t at q)))
    go true p true q true r false s z = cc
    go true p true q false r d s z = cc
    go true p false q c r d s z = cc
    go false p b q c r d s z = cc

unwritten : (f : HostFigure) (w : ℕ) (out : List ℕ) → ¬ ((write f w out).code ≡ 0)
    → (written f w out ≡ out) × (write f w out ≡ answer_of (write f w out).code 0)
unfolding figure_over
unwritten f w out n = go (write_figure_code f w (length out)) n
  where
    go : (x : Result (Unit {0}) Code) → ¬ ((write_answer x w).code ≡ 0)
        → (cond (is_ok x) (field_of w (figure_of f) ++ drop w out) out ≡ out) × (write_answer x w ≡ answer_of (write_answer x w).code 0)
    go (Ok u) m = absurd (m refl)
    go (Err code) m = (refl, refl)

pub packed_promises : PackedPromises
packed_promises =
    record {
      figures = λ n ds d k l h. ap packed_numbers (figure-read n ds d k l h);
      six = λ n ds d k l h. ap packed_numbers (six-read n ds d k l h);
      missing = missing-read;
      missing-only = missing-only;
      one = λ f. (one-is f, is_one f);
      other = other-four;
      four = four_is;
      read-write = read-write;
      write_read = write_read;
      writes-only = writes-only;
      unwritten = unwritten;
    }
