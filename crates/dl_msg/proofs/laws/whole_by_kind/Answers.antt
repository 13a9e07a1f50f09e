use Rattle.dl_msg.proofs.laws.whole_by_kind.Goals as goal

pub returns : goal.returns
returns c = record {
  add = λ l e n bytes. (λ w. w, λ w. w);
  copy = λ t l e n bytes. (λ w. w, λ w. w);
  entry_is = λ t l e bytes. (λ w. w, λ w. w);
  ask_lac = λ t l f. tt;
  ask_entry = λ t l e. tt;
  add_ok = λ l e. tt;
  add_fenced = λ l e. tt;
  full = λ what l e. tt;
  copy_ok = λ t l e. tt;
  lac_is = λ t l f n. tt;
  no_entry = λ t l e f. tt;
  meta_ask = λ s n r. tt;
  meta_reply = λ s n r. tt;
}
