-- What is known of a reader's and a writer's bytes over several calls, and what a text prints. Assumes nothing.
use Rattle.std.proofs.Common.{◌≡◌, refl, sym, ap, ◌∙◌, subst, ℕ, ◌+◌, ◌-◌, ◌≤◌, ◌<◌, List, [], ◌∷◌, ◌++◌, length, get_or, take, drop}
use Rattle.std.proofs.Common.{append_assoc, add-one, arith, length-append}
use Rattle.std.proofs.lemmas.List.{append-nil, take_at, take-take}
use Rattle.std.proofs.Math.Seq.{take-add, take-suc}
use Rattle.std.specs.Prelude.{Option, Some, None, IfSome, Result, Ok, Err, OnOk}
use Rattle.std.specs.Io.KnownBytes.{Appends, Consumes, Keeps, IsAtEnd}
use Rattle.trits.specs.Planes.{zero_words}
use Rattle.trits.specs.Rows.{put_words}
use Rattle.text.specs.Answers.{header}
use Rattle.text_lines.specs.Machine.{Machine, machine, stepped, step_prints, end_prints, fed, started, no_line}
use Rattle.text_lines.specs.Print.{prints, no_key}
use Rattle.text_lines.specs.declared.State.{State}
use Rattle.text_lines.proofs.Fed.{printed_whole}
use Rattle.check_lines.specs.{after, shown, Printed, PrintedTo, AllPrinted, EndPrinted, PrintsWhole}
use Rattle.check_lines.proofs.After.{after_append}
use Rattle.check_lines.specs.declared.Failure.{Failure}

-- ---- known bytes

pub appends_none : (a : Option (List ℕ)) → Appends a a []
appends_none None = tt
appends_none (Some xs) = sym (append-nil xs)

pub appends_then : (a b c : Option (List ℕ)) (x y : List ℕ) → Appends a b x → Appends b c y → Appends a c (x ++ y)
appends_then None b c x y p q = tt
appends_then (Some xs) None c x y p q = absurd p
appends_then (Some xs) (Some ys) None x y p q = absurd q
appends_then (Some xs) (Some ys) (Some zs) x y p q = q ∙ ap (λ (l : List ℕ). l ++ y) p ∙ append_assoc xs x y

pub appends_as : (a b : Option (List ℕ)) {x y : List ℕ} → x ≡ y → Appends a b x → Appends a b y
appends_as a b e p = subst (Appends a b) e p

pub consumes_none : (a b : Option (List ℕ)) → Keeps a b → Consumes a b []
consumes_none None b p = tt
consumes_none (Some xs) None p = absurd p
consumes_none (Some xs) (Some ys) p = sym p

pub consumes_then : (a b c : Option (List ℕ)) (x y : List ℕ) → Consumes a b x → Consumes b c y → Consumes a c (x ++ y)
consumes_then None b c x y p q = tt
consumes_then (Some xs) None c x y p q = absurd p
consumes_then (Some xs) (Some ys) None x y p q = absurd q
consumes_then (Some xs) (Some ys) (Some zs) x y p q = p ∙ ap (λ (l : List ℕ). x ++ l) q ∙ sym (append_assoc x y zs)

-- ---- parts of a buffer

-- what a write takes of the bytes that are left follows those that are written
pub taken_on : (done n count : ℕ) (l : List ℕ) → n ≤ count - done → take done l ++ take n (take (count - done) (drop done l)) ≡ take (done + n) l
taken_on done n count l h = ap (λ (x : List ℕ). take done l ++ x) (take-take n (count - done) (drop done l) h) ∙ sym (take-add done n l)

-- what was put into a buffer is no longer than it
pub put_count : (l x m : List ℕ) (n : ℕ) → m ≡ put_words 0 l x → n ≡ length x → n ≤ length m
unfolding put_words
put_count l x m n e c = omega (arith, ap length e, c, length-append x (drop (0 + length x) l))

pub front_put : (l x : List ℕ) (n : ℕ) → n ≡ length x → take n (put_words 0 l x) ≡ x
unfolding put_words
front_put l x n e = take_at x (drop (0 + length x) l) n (sym e)

-- ---- what a text prints

pub shown_append : (xs ys : List ℕ) (m : Machine) → shown (xs ++ ys) m ≡ shown xs m ++ shown ys (after xs m)
unfolding shown after
shown_append [] ys m = refl
shown_append (x ∷ xs) ys m =
    ap (λ (l : List ℕ). step_prints x m ++ l) (shown_append xs ys (stepped x m))
    ∙ sym (append_assoc (step_prints x m) (shown xs (stepped x m)) (shown ys (after xs (stepped x m))))

pub shown_none : (m : Machine) → [] ≡ shown [] m
unfolding shown
shown_none m = refl

pub shown_more : (bytes : List ℕ) (i : ℕ) (m : Machine) → i < length bytes
    → shown (take i bytes) m ++ step_prints (get_or bytes i 0) (after (take i bytes) m) ≡ shown (take (i + 1) bytes) m
unfolding shown
shown_more bytes i m h =
    sym (ap (λ (k : ℕ). shown (take k bytes) m) (add-one i)
    ∙ ap (λ (x : List ℕ). shown x m) (take-suc bytes i 0 h)
    ∙ shown_append (take i bytes) (get_or bytes i 0 ∷ []) m
    ∙ ap (λ (l : List ℕ). shown (take i bytes) m ++ l) (append-nil (step_prints (get_or bytes i 0) (after (take i bytes) m))))

pub shown_whole : (text : List ℕ) (m : Machine) → shown text m ++ end_prints (after text m) ≡ fed m text
unfolding shown after fed
shown_whole [] m = refl
shown_whole (b ∷ text) m =
    append_assoc (step_prints b m) (shown text (stepped b m)) (end_prints (after text (stepped b m)))
    ∙ ap (λ (l : List ℕ). step_prints b m ++ l) (shown_whole text (stepped b m))

-- ---- one read after another

pub printed_none : (r q w : Option (List ℕ)) (m : Machine) → Keeps r q → Printed r q w w m []
unfolding shown
printed_none r q w m k = record { taken = consumes_none r q k; written = appends_none w }

pub printed_as_taken : (r q w : Option (List ℕ)) (m : Machine) → Consumes r q [] → Printed r q w w m []
unfolding shown
printed_as_taken r q w m k = record { taken = k; written = appends_none w }

keeps_same : (a : Option (List ℕ)) → Keeps a a
keeps_same None = tt
keeps_same (Some xs) = refl

pub printed_nothing : (r w : Option (List ℕ)) (m : Machine) → Printed r r w w m []
printed_nothing r w m = printed_none r r w m (keeps_same r)

pub printed_then : (r q p w v u : Option (List ℕ)) (m : Machine) (x y : List ℕ) → Printed r q w v m x → Printed q p v u (after x m) y
    → Printed r p w u m (x ++ y)
printed_then r q p w v u m x y a b = record {
  taken = consumes_then r q p x y a.taken b.taken;
  written = appends_as w u (sym (shown_append x y m)) (appends_then w v u (shown x m) (shown y (after x m)) a.written b.written);
}

-- what is read and printed after some bytes is read and printed after them all
module _ (r q p w v u : Option (List ℕ)) (m n : Machine) (text : List ℕ) (e : n ≡ after text m) (a : Printed r q w v m text) where
  further : (y : List ℕ) → Printed q p v u n y → Printed r p w u m (text ++ y)
  further y b = printed_then r q p w v u m text y a (subst (λ (k : Machine). Printed q p v u k y) e b)

  reached : (k : Machine) (y : List ℕ) → k ≡ after y n → k ≡ after (text ++ y) m
  reached k y z = z ∙ ap (after y) e ∙ sym (after_append text y m)

  pub printed_from : (line ones twos : List ℕ) (s : State) → PrintedTo q p v u n line ones twos s → PrintedTo r p w u m line ones twos s
  printed_from line ones twos s b = (text ++ b.0, reached (machine s line ones twos) b.0 b.1, further b.0 b.2)

-- ---- a whole text

-- the machine at the start
pub begun : (s : State) → s ≡ no_line → machine s (zero_words 1025) (zero_words 382) (zero_words 382) ≡ started
unfolding started no_line no_key
begun s e = ap (λ (t : State). machine t (zero_words 1025) (zero_words 382) (zero_words 382)) e

-- the end of the text, printed or not
pub end_printed : (w v : Option (List ℕ)) (line ones twos : List ℕ) (s : State) (o : Result Unit Failure) (bytes : List ℕ) → OnOk o (Appends w v bytes)
    → bytes ≡ end_prints (machine s line ones twos) → EndPrinted w v line ones twos (Ok s) o
end_printed w v line ones twos s (Ok u) bytes p e = appends_as w v e p
end_printed w v line ones twos s (Err f) bytes p e = tt

-- a reader at its end had what was taken
all_taken : (q : Option (List ℕ)) (xs text : List ℕ) → Consumes (Some xs) q text → IsAtEnd q → text ≡ xs
all_taken None xs text c e = absurd c
all_taken (Some ys) xs text c e = sym (c ∙ ap (λ (l : List ℕ). text ++ l) e ∙ append-nil text)

module _ (w a b v : Option (List ℕ)) (h : Appends w a header) where
  ended : (text : List ℕ) (n : Machine) → n ≡ after text started → Appends a b (shown text started) → Appends b v (end_prints n) → Appends w v (prints text)
  ended text n e p z =
      appends_as w v
      (ap (λ (l : List ℕ). header ++ l) (ap (λ (k : Machine). shown text started ++ end_prints k) e ∙ shown_whole text started) ∙ printed_whole text)
      (appends_then w a v header (shown text started ++ end_prints n) h (appends_then a b v (shown text started) (end_prints n) p z))

  known : (r q : Option (List ℕ)) (text : List ℕ) → Consumes r q text → IsAtEnd q → Appends w v (prints text) → IfSome r (λ xs. Appends w v (prints xs))
  known None q text c e p = tt
  known (Some xs) q text c e p = appends_as w v (ap prints (all_taken q xs text c e)) p

  pub whole : (r q : Option (List ℕ)) (line ones twos : List ℕ) (read : Result State Failure) (o : Result Unit Failure)
      → AllPrinted r q a b started line ones twos read
      → EndPrinted b v line ones twos read o → PrintsWhole r w v o
  whole r q line ones twos (Ok s) (Ok u) f z = known r q f.0.0 f.0.2.taken f.1 (ended f.0.0 (machine s line ones twos) f.0.1 f.0.2.written z)
  whole r q line ones twos (Ok s) (Err e) f z = tt
  whole r q line ones twos (Err d) (Ok u) f z = absurd z
  whole r q line ones twos (Err d) (Err e) f z = tt
