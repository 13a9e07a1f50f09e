-- One read or write after another, where the bytes are told.
use Rattle.std.proofs.Common.{◌≡◌, ℕ, List, [], ◌++◌, length, take, drop, Some, None, ◌-◌, refl, sym, ap, subst, ◌∙◌, append_assoc}
use Rattle.std.specs.Prelude.{Option, Result, Ok, Err, OnOk}
use Rattle.std.specs.Io.KnownBytes.{Consumes, Appends, Keeps}
use Rattle.std.proofs.lemmas.List.{take-append-drop, append-nil, take_rest}
use Rattle.dl_io.specs.Sinks.{KeepsAmount, GivesFront}
use Rattle.dl_io.specs.Views.{SinkView}

-- what is left loses nothing
pub consumes_nothing : (a : Option (List ℕ)) → Consumes a a []
consumes_nothing None = tt
consumes_nothing (Some p) = refl

-- one read after another
pub consumes_more : (a b c : Option (List ℕ)) (x y : List ℕ) → Consumes a b x → Consumes b c y → Consumes a c (x ++ y)
consumes_more None b c x y h k = tt
consumes_more (Some p) None c x y h k = absurd h
consumes_more (Some p) (Some q) None x y h k = absurd k
consumes_more (Some p) (Some q) (Some r) x y h k = h ∙ ap (λ (t : List ℕ). x ++ t) k ∙ sym (append_assoc x y r)

-- a failed read takes nothing
pub consumes_kept : (a b c : Option (List ℕ)) (x : List ℕ) → Consumes a b x → Keeps b c → Consumes a c x
consumes_kept None b c x h k = tt
consumes_kept (Some p) None c x h k = absurd h
consumes_kept (Some p) (Some q) None x h k = absurd k
consumes_kept (Some p) (Some q) (Some r) x h k = h ∙ ap (λ (t : List ℕ). x ++ t) (sym k)

-- what is held gains nothing
pub appends_nothing : (a : Option (List ℕ)) → Appends a a []
appends_nothing None = tt
appends_nothing (Some p) = sym (append-nil p)

-- one write after another
pub appends_more : (a b c : Option (List ℕ)) (x y : List ℕ) → Appends a b x → Appends b c y → Appends a c (x ++ y)
appends_more None b c x y h k = tt
appends_more (Some p) None c x y h k = absurd h
appends_more (Some p) (Some q) None x y h k = absurd k
appends_more (Some p) (Some q) (Some r) x y h k = k ∙ ap (λ (t : List ℕ). t ++ y) h ∙ append_assoc p x y

-- one write after another, where the second is not known to go well
pub appends_after : {E : Type 0} (a b c : Option (List ℕ)) (x y : List ℕ) (r : Result (Unit {0}) E) → Appends a b x → OnOk r (Appends b c y)
    → OnOk r (Appends a c (x ++ y))
appends_after a b c x y (Ok u) h k = appends_more a b c x y h k
appends_after a b c x y (Err e) h k = tt

-- a failed write, or a call that finishes, adds nothing
pub appends_kept : (a b c : Option (List ℕ)) (x : List ℕ) → Appends a b x → Keeps b c → Appends a c x
appends_kept None b c x h k = tt
appends_kept (Some p) None c x h k = absurd h
appends_kept (Some p) (Some q) None x h k = absurd k
appends_kept (Some p) (Some q) (Some r) x h k = k ∙ h

-- a told amount that stays twice stays
pub keeps_amount_more : (a b c : Option ℕ) → KeepsAmount a b → KeepsAmount b c → KeepsAmount a c
keeps_amount_more None b c h k = tt
keeps_amount_more (Some n) None c h k = absurd (cc)
keeps_amount_more (Some n) (Some m) c h k = k ∙ h

-- an amount stays as it is
pub keeps_amount_same : (a : Option ℕ) → KeepsAmount a a
keeps_amount_same None = tt
keeps_amount_same (Some n) = refl

-- nothing is a front of a text
pub front_of_nothing : (a : SinkView) (text : List ℕ) → GivesFront a a text
front_of_nothing a text = record { front = []; rest = text; parts = refl; given = appends_nothing a.held }

-- a whole text is a front of itself
pub front_of_whole : (a b : SinkView) (text : List ℕ) → Appends a.held b.held text → GivesFront a b text
front_of_whole a b text h = record { front = text; rest = []; parts = sym (append-nil text); given = h }

-- a front of a text is one of a longer text
pub front_of_longer : (a b : SinkView) (text more : List ℕ) → GivesFront a b text → GivesFront a b (text ++ more)
front_of_longer a b text more g = record {
  front = g.front;
  rest = g.rest ++ more;
  parts = ap (λ (t : List ℕ). t ++ more) g.parts ∙ append_assoc g.front g.rest more;
  given = g.given;
}

-- a text, and then a front of the next one
pub front_after : (a b c : SinkView) (text more : List ℕ) → Appends a.held b.held text → GivesFront b c more → GivesFront a c (text ++ more)
front_after a b c text more h g = record {
  front = text ++ g.front;
  rest = g.rest;
  parts = ap (λ (t : List ℕ). text ++ t) g.parts ∙ sym (append_assoc text g.front g.rest);
  given = appends_more a.held b.held c.held text g.front h g.given;
}

-- a failed write leaves the front
pub front_kept : (a b c : SinkView) (text : List ℕ) → GivesFront a b text → Keeps b.held c.held → GivesFront a c text
front_kept a b c text g k = record {
  front = g.front;
  rest = g.rest;
  parts = g.parts;
  given = appends_kept a.held b.held c.held g.front g.given k;
}

-- all of the text but this rest was given
pub record GivenBefore (old new : SinkView) (text rest : List ℕ) : Type 0 where
  pub front : List ℕ
  pub parts : text ≡ front ++ rest
  pub given : Appends old.held new.held front

-- at first all of the text is left
pub given_first : (a : SinkView) (text : List ℕ) → GivenBefore a a text text
given_first a text = record { front = []; parts = refl; given = appends_nothing a.held }

-- a piece more is given
pub given_more : (a b c : SinkView) (text rest : List ℕ) (n : ℕ) → GivenBefore a b text rest → Appends b.held c.held (take n rest)
    → GivenBefore a c text (drop n rest)
given_more a b c text rest n g k = record {
  front = g.front ++ take n rest;
  parts = g.parts ∙ ap (λ (t : List ℕ). g.front ++ t) (sym (take-append-drop n rest)) ∙ sym (append_assoc g.front (take n rest) (drop n rest));
  given = appends_more a.held b.held c.held g.front (take n rest) g.given k;
}

-- the same where the rest is a range of the slice
pub given_on : (a b c : SinkView) (text rest : List ℕ) (n : ℕ) → GivenBefore a b text rest → Appends b.held c.held (take n rest)
    → GivenBefore a c text (take (length rest - n) (drop n rest))
given_on a b c text rest n g k = subst (λ (t : List ℕ). GivenBefore a c text t) (sym (take_rest rest n)) (given_more a b c text rest n g k)
