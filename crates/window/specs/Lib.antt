-- ---- what the customer must believe of the window, from documents 01 and 02
pub mod Window
